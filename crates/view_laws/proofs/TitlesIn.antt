-- Lines that are put together of tags and plain texts: which titles they have, and that each is one line.
use Rattle.std.proofs.Common.{◌≡◌, ℕ, ◌+◌, Bool, true, false, cond, ◌&&◌, ◌||◌}
use Rattle.std.proofs.Common.{List, [], ◌∷◌, ◌++◌, map, drop, codes, decimal}
use Rattle.std.proofs.Common.{refl, sym, ap, subst, ◌∙◌, ◌≤◌, length, arith}
use Rattle.std.specs.Prelude.{◌==◌}
use Rattle.std.specs.List.{AllByRecursion, list_all, list_any, flat_map}
use Rattle.std.proofs.lemmas.Bool.{and_parts, or_parts, or_from}
use Rattle.std.proofs.lemmas.List.{append_assoc, append-nil}
use Rattle.std.proofs.lemmas.List.Concat.{flat_map-append}
use Rattle.ttp_base.specs.Text.{Lines, newline, is_line}
use Rattle.ttp_base.proofs.Lines.{is_line-append}
use Rattle.ttp_base.proofs.Numerals.{has, has-append}
use Rattle.ttp_world.proofs.LineLists.{each-append}
use Rattle.ttp_world.proofs.TraceLines.{IsLine}
use Rattle.picture_text.specs.Cells.{place_attributes, title_element, cell, mark}
use Rattle.picture_text.specs.Picture.{class_of, text_line}
use Rattle.view_laws.specs.Titles.{begins_with, text_before, titles_in, titles}
use Rattle.view_laws.proofs.FromBelow.{is_special, Plain, parts, plain-decimal}

-- a text without a line feed, as plain texts are
abbrev Unfed : List ℕ → Type 0
Unfed text = has 10 text ≡ false

plain-unfed : (text : List ℕ) → Plain text → Unfed text
plain-unfed [] is = refl
plain-unfed (c ∷ text) is =
    let parts = or_parts (is_special c) (list_any is_special text) is in
    or_from (c == 10) (has 10 text) (or_parts (c == 10) ((60 == c) || (38 == c)) parts.0).0 (plain-unfed text parts.1)

-- before any text, these bytes add these titles, and no line feed
pub record Adds (bytes : List ℕ) (names : Lines) : Type 0 where
  pub before : (rest : List ℕ) → titles_in (bytes ++ rest) ≡ names ++ titles_in rest
  pub unfed : has 10 bytes ≡ false

infixl 20 ◌▸◌
pub ◌▸◌ : {x y : List ℕ} {a b : Lines} → Adds x a → Adds y b → Adds (x ++ y) (a ++ b)
◌▸◌ {x} {y} {a} {b} p q = record {
  before = λ rest.
      ap titles_in (append_assoc x y rest) ∙ p.before (y ++ rest) ∙ ap (λ (others : Lines). a ++ others) (q.before rest)
      ∙ sym (append_assoc a b (titles_in rest));
  unfed = has-append 10 x y p.unfed q.unfed;
}

-- a tag or the like, by computing
pub tag : (x : List ℕ) → ((rest : List ℕ) → titles_in (x ++ rest) ≡ titles_in rest) → has 10 x ≡ false → Adds x []
tag x none unfed = record { before = none; unfed = unfed }

skipped : (x rest : List ℕ) → Plain x → titles_in (x ++ rest) ≡ titles_in rest
skipped [] rest is = refl
skipped (c ∷ x) rest is = go (c == 10) (60 == c) (38 == c) is (skipped x rest)
  where
    go : (feed opens other : Bool) → ((feed || (opens || other)) || list_any is_special x) ≡ false
        → (Plain x → titles_in (x ++ rest) ≡ titles_in rest)
        → cond (opens && begins_with (codes "title>") (x ++ rest))
        (text_before (codes "</title>") (drop 6 (x ++ rest)) ∷ titles_in (x ++ rest)) (titles_in (x ++ rest))
        ≡ titles_in rest
    go true opens other is others = absurd (cc)
    go false true other is others = absurd (cc)
    go false false true is others = absurd (cc)
    go false false false is others = others is

pub plain : (x : List ℕ) → Plain x → Adds x []
plain x is = record { before = λ rest. skipped x rest is; unfed = plain-unfed x is }

-- A title.

before-end : (x rest : List ℕ) → Plain x → text_before (codes "</title>") (x ++ (codes "</title>" ++ rest)) ≡ x
before-end [] rest is = refl
before-end (c ∷ x) rest is = go (c == 10) (60 == c) (38 == c) is (before-end x rest)
  where
    go : (feed opens other : Bool) → ((feed || (opens || other)) || list_any is_special x) ≡ false
        → (Plain x → text_before (codes "</title>") (x ++ (codes "</title>" ++ rest)) ≡ x)
        → cond (opens && begins_with (codes "/title>") (x ++ (codes "</title>" ++ rest))) []
        (c ∷ text_before (codes "</title>") (x ++ (codes "</title>" ++ rest)))
        ≡ c ∷ x
    go true opens other is others = absurd (cc)
    go false true other is others = absurd (cc)
    go false false true is others = absurd (cc)
    go false false false is others = ap (λ (bytes : List ℕ). c ∷ bytes) (others is)

pub title : (name : List ℕ) → Plain name → Adds (title_element name) (name ∷ [])
title name is = record {
  before = λ rest.
      ap (λ (bytes : List ℕ). titles_in (codes "<title>" ++ bytes)) (append_assoc name (codes "</title>") rest)
      ∙ (λ i. before-end name rest is i ∷ skipped name (codes "</title>" ++ rest) is i);
  unfed = has-append 10 name (codes "</title>") (plain-unfed name is) refl;
}

-- a line with these titles
pub record IsLineWith (text : List ℕ) (names : Lines) : Type 0 where
  pub titled : titles_in text ≡ names
  pub one : is_line text ≡ true

-- bytes and the end of their line behind them
pub closed : {bytes : List ℕ} {names : Lines} → Adds bytes names → (last : List ℕ)
    → titles_in last ≡ [] → is_line last ≡ true
    → IsLineWith (bytes ++ last) names
closed {bytes} {names} adds last none one = record {
  titled = adds.before last ∙ ap (λ (others : Lines). names ++ others) none ∙ append-nil names;
  one = is_line-append bytes last adds.unfed one;
}

pub line_of : {bytes : List ℕ} {names : Lines} → Adds bytes names → IsLineWith (bytes ++ newline) names
line_of adds = closed adds newline refl refl

-- Parts of lines.

pub number : (n : ℕ) → Adds (decimal n) []
number n = plain (decimal n) (plain-decimal n)

-- a title behind the end of a tag and before another
pub named : {x o c : List ℕ} {a : Lines} → Adds x a → Adds o [] → (name : List ℕ) → Plain name → Adds c []
    → Adds (x ++ (o ++ codes "<title>") ++ name ++ (codes "</title>" ++ c)) (a ++ [] ++ (name ∷ []) ++ [])
named front end name n next = simp append_assoc (simp append_assoc at (front ▸ end ▸ title name n ▸ next))

-- and before the end of its line
pub closed_title : {x o : List ℕ} {a : Lines} → Adds x a → Adds o [] → (name : List ℕ) → Plain name → (last : List ℕ)
    → titles_in last ≡ [] → is_line last ≡ true
    → IsLineWith (x ++ (o ++ codes "<title>") ++ name ++ (codes "</title>" ++ last)) (a ++ [] ++ (name ∷ []))
closed_title front end name n last none one =
    simp append_assoc (simp append_assoc at (closed (front ▸ end ▸ title name n) last none one))

pub place-adds : (x y : ℕ) → Adds (place_attributes x y) []
place-adds x y = plain (place_attributes x y) (simp parts)

-- Lines.

-- a line of text
pub text-titles : (class : List ℕ) (x y : ℕ) (shown : List ℕ) → Plain class → Plain shown
    → IsLineWith (text_line class x y shown) []
text-titles class x y shown c s =
    let all =
    tag (codes "<text") (λ rest. refl) refl ▸ plain class c ▸ place-adds x y ▸ tag
    (codes ">") (λ rest. refl) refl ▸ plain shown s in
    closed all (codes "</text>\n") refl refl

pub classed-titles : (class : List ℕ) (x y : ℕ) (shown : List ℕ) → Plain class → Plain shown
    → IsLineWith (text_line (class_of class) x y shown) []
classed-titles class x y shown c s = text-titles (class_of class) x y shown (simp (parts, c)) s

-- a cell, and a mark
pub cell-titles : (class : List ℕ) (x y : ℕ) (name shown : List ℕ) → Plain class → Plain name → Plain shown
    → IsLineWith (cell class x y name shown) (name ∷ [])
cell-titles class x y name shown c n s =
    let all =
    named (tag (codes "<g class=\"") (λ rest. refl) refl ▸ plain class c) (plain (codes "\">") refl) name n
    (tag (codes "<rect") (λ rest. refl) refl)
    ▸ place-adds x y ▸ tag (codes " width=\"19\" height=\"19\"/><text")
    (λ rest. refl) refl ▸ place-adds (x + 9) (y + 14)
    ▸ tag (codes ">") (λ rest. refl) refl ▸ plain shown s in
    closed all (codes "</text></g>\n") refl refl

pub mark-titles : (class shape : List ℕ) (x y : ℕ) (name : List ℕ) → Plain class → Plain shape → Plain name
    → IsLineWith (mark class shape x y name) (name ∷ [])
mark-titles class shape x y name c s n =
    closed_title (tag (codes "<path class=\"") (λ rest. refl) refl ▸ plain class c ▸
    plain (codes "\" d=\"M") refl ▸ number x
    ▸ plain (codes " ") refl ▸ number y ▸ plain shape s) (plain (codes "\">") refl) name n (codes "</path>\n") refl refl

-- Lists of lines.

-- a line has one title at most
abbrev pub HasOne : List ℕ → Type 0
HasOne text = length (titles_in text) ≤ 1

-- these are lines with these titles, and none has two
pub record Have (lines names : Lines) : Type 0 where
  pub are : titles lines ≡ names
  pub once : AllByRecursion HasOne lines
  pub each : AllByRecursion IsLine lines

infixl 20 ◌▹◌
pub ◌▹◌ : {xs ys : Lines} {a b : Lines} → Have xs a → Have ys b → Have (xs ++ ys) (a ++ b)
◌▹◌ {xs} {ys} p q = record {
  are = flat_map-append titles_in xs ys ∙ (λ i. p.are i ++ q.are i);
  once = each-append HasOne xs ys p.once q.once;
  each = each-append IsLine xs ys p.each q.each;
}

has-one : (text : List ℕ) (names : Lines) → length names ≤ 1 → titles_in text ≡ names → HasOne text
has-one text names few is = subst (λ (lines : Lines). length lines ≤ 1) (sym is) few

-- a line before others: without a title, and with one
pub untitled : (text : List ℕ) (lines names : Lines) → IsLineWith text [] → Have lines names → Have (text ∷ lines) names
untitled text lines names is others = record {
  are = λ i. is.titled i ++ others.are i;
  once = (has-one text [] (omega arith) is.titled, others.once);
  each = (is.one, others.each);
}

pub titled : (text : List ℕ) (lines : Lines) (name : List ℕ) (names : Lines) → IsLineWith text (name ∷ [])
    → Have lines names → Have (text ∷ lines) (name ∷ names)
titled text lines name names is others = record {
  are = λ i. is.titled i ++ others.are i;
  once = (has-one text (name ∷ []) (omega arith) is.titled, others.once);
  each = (is.one, others.each);
}

pub no-lines : Have [] []
no-lines = record { are = refl; once = tt; each = tt }

pub map-none : {X : Type 0} (f : X → List ℕ) (xs : List X) → ((x : X) → IsLineWith (f x) []) → Have (map f xs) []
map-none f [] each = no-lines
map-none f (x ∷ xs) each = untitled (f x) (map f xs) [] (each x) (map-none f xs each)

pub map-each : {X : Type 0} (f name : X → List ℕ) (xs : List X) → ((x : X) → IsLineWith (f x) (name x ∷ []))
    → Have (map f xs) (map name xs)
map-each f name [] each = no-lines
map-each f name (x ∷ xs) each = titled (f x) (map f xs) (name x) (map name xs) (each x) (map-each f name xs each)

pub flat-none : {X : Type 0} (f : X → Lines) (xs : List X) → ((x : X) → Have (f x) []) → Have (flat_map f xs) []
flat-none f [] each = no-lines
flat-none f (x ∷ xs) each = each x ▹ flat-none f xs each

pub flat-each : {X : Type 0} (f names : X → Lines) (xs : List X) → ((x : X) → Have (f x) (names x))
    → Have (flat_map f xs) (flat_map names xs)
flat-each f names [] each = no-lines
flat-each f names (x ∷ xs) each = each x ▹ flat-each f names xs each

pub if-none : (b : Bool) (lines : Lines) → Have lines [] → Have (cond b lines []) []
if-none true lines none = none
if-none false lines none = no-lines

-- lines without titles, by computing

parts-nil : (a b : Lines) → a ++ b ≡ [] → (a ≡ []) × (b ≡ [])
parts-nil [] b e = (refl, e)
parts-nil (x ∷ a) b e = cc

pub bare-lines : (lines : Lines) → titles lines ≡ [] → list_all is_line lines ≡ true
    → AllByRecursion (λ text. IsLineWith text []) lines
bare-lines [] is are = tt
bare-lines (text ∷ lines) is are =
    let both = parts-nil (titles_in text) (titles lines) is in
    let ones = and_parts (is_line text) (list_all is_line lines) are in
    (record { titled = both.0; one = ones.0 }, bare-lines lines both.1 ones.1)

pub bare : (lines : Lines) → AllByRecursion (λ text. IsLineWith text []) lines → Have lines []
bare [] are = no-lines
bare (text ∷ lines) are = untitled text lines [] are.0 (bare lines are.1)
