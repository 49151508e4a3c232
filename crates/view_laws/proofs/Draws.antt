-- Lines of a chart with their marks.
use Rattle.std.proofs.Common.{◌≡◌, Bool, true, false, cond, ℕ, List, [], ◌∷◌, ◌++◌, map, filter}
use Rattle.std.proofs.Common.{refl, sym, ap, ◌∙◌, subst}
use Rattle.std.specs.List.{AllByRecursion, flat_map}
use Rattle.std.proofs.lemmas.List.{append-nil}
use Rattle.std.proofs.lemmas.List.Concat.{flat_map-append}
use Rattle.std.proofs.lemmas.List.Elements.{filter-append}
use Rattle.ttp_base.specs.Text.{Lines}
use Rattle.ttp_world.proofs.LineLists.{each-append}
use Rattle.ttp_world.proofs.TraceLines.{IsLine}
use Rattle.view_laws.proofs.FromBelow.{Plain}
use Rattle.view_laws.specs.Titles.{titles_in, titles}
use Rattle.view_laws.proofs.LinesAndTitles.{Unmarked, unmarked}
use Rattle.view_laws.proofs.TitlesIn.{IsLineWith, HasOne, untitled, titled, no-lines}
use Rattle.view_laws.specs.Marks.{is_mark}

-- these are lines that have these marks, by their titles; none has two titles, and no title needs an escape
pub record Draws (lines marks : Lines) : Type 0 where
  pub are : titles (filter is_mark lines) ≡ marks
  pub once : AllByRecursion HasOne lines
  pub plain : AllByRecursion Unmarked (titles lines)
  pub each : AllByRecursion IsLine lines

pub nothing : Draws [] []
nothing = record { are = refl; once = tt; plain = tt; each = tt }

infixl 20 ◌◃◌
pub ◌◃◌ : {xs ys : Lines} {a b : Lines} → Draws xs a → Draws ys b → Draws (xs ++ ys) (a ++ b)
◌◃◌ {xs} {ys} {a} {b} p q = record {
  are = ap titles (filter-append is_mark xs ys)
      ∙ flat_map-append titles_in (filter is_mark xs) (filter is_mark ys) ∙ (λ i. p.are i ++ q.are i);
  once = each-append HasOne xs ys p.once q.once;
  plain = subst (AllByRecursion Unmarked) (sym (flat_map-append titles_in xs ys))
      (each-append Unmarked (titles xs) (titles ys) p.plain q.plain);
  each = each-append IsLine xs ys p.each q.each;
}

-- a line without a title, one with a title that is no mark, and a mark

kept-none : (b : Bool) (text : List ℕ) → titles_in text ≡ [] → titles (cond b (text ∷ []) []) ≡ []
kept-none true text is = append-nil (titles_in text) ∙ is
kept-none false text is = refl

pub untitled-line : (text : List ℕ) → IsLineWith text [] → Draws (text ∷ []) []
untitled-line text is = record {
  are = kept-none (is_mark text) text is.titled;
  once = (untitled text [] [] is no-lines).once;
  plain = subst (AllByRecursion Unmarked) (sym (append-nil (titles_in text) ∙ is.titled)) tt;
  each = (is.one, tt);
}

pub titled-line : (text name : List ℕ) → IsLineWith text (name ∷ []) → is_mark text ≡ false → Plain name
    → Draws (text ∷ []) []
titled-line text name is other plain = record {
  are = ap (λ (b : Bool). titles (cond b (text ∷ []) [])) other;
  once = (titled text [] name [] is no-lines).once;
  plain = subst (AllByRecursion Unmarked) (sym (append-nil (titles_in text) ∙ is.titled)) (unmarked name plain, tt);
  each = (is.one, tt);
}

pub mark-line : (text name : List ℕ) → IsLineWith text (name ∷ []) → is_mark text ≡ true → Plain name
    → Draws (text ∷ []) (name ∷ [])
mark-line text name is mark plain = record {
  are = ap (λ (b : Bool). titles (cond b (text ∷ []) [])) mark ∙ append-nil (titles_in text) ∙ is.titled;
  once = (titled text [] name [] is no-lines).once;
  plain = subst (AllByRecursion Unmarked) (sym (append-nil (titles_in text) ∙ is.titled)) (unmarked name plain, tt);
  each = (is.one, tt);
}

-- many lines, and lines that are there or not

pub map-draws : {X : Type 0} (f : X → List ℕ) (xs : List X) → ((x : X) → Draws (f x ∷ []) []) → Draws (map f xs) []
map-draws f [] each = nothing
map-draws f (x ∷ xs) each = each x ◃ map-draws f xs each

pub flat-nothing : {X : Type 0} (f : X → Lines) (xs : List X) → ((x : X) → Draws (f x) []) → Draws (flat_map f xs) []
flat-nothing f [] each = nothing
flat-nothing f (x ∷ xs) each = each x ◃ flat-nothing f xs each

pub flat-draws : {X : Type 0} (f marks : X → Lines) (xs : List X) → ((x : X) → Draws (f x) (marks x))
    → Draws (flat_map f xs) (flat_map marks xs)
flat-draws f marks [] each = nothing
flat-draws f marks (x ∷ xs) each = each x ◃ flat-draws f marks xs each

pub if-draws : (b : Bool) (lines others marks : Lines) → Draws lines marks → Draws others marks
    → Draws (cond b lines others) marks
if-draws true lines others marks one other = one
if-draws false lines others marks one other = other
