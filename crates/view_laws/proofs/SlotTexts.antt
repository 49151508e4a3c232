-- The lines of a text that is a trace, slot by slot.
use Rattle.std.proofs.Common.{◌≡◌, ◌≢◌, ℕ, ◌-◌, ◌<◌, ◌≤◌, ◌^◌, Bool, true, false}
use Rattle.std.proofs.Common.{cond, List, [], ◌∷◌, ◌++◌, map, take, length}
use Rattle.std.proofs.Common.{filter, refl, sym, ap, ◌∙◌, arith, Option, Some, None, option_map, option_to_list}
use Rattle.std.specs.List.{flat_map, count_by}
use Rattle.std.specs.Str.{bytes_eq}
use Rattle.std.proofs.lemmas.List.{append-nil, length-append}
use Rattle.std.proofs.lemmas.List.Elements.{filter-append}
use Rattle.std.proofs.lemmas.List.Sums.{length-filter}
use Rattle.std.proofs.Math.Seq.{take-append_seam}
use Rattle.ttp_base.specs.NodeSet.{below}
use Rattle.ttp_base.specs.Text.{Lines, newline, lines_of}
use Rattle.ttp_world.specs.declared.keep.Back.{Back}
use Rattle.ttp_world.specs.declared.keep.Back.TheVariants as back
use Rattle.ttp_world.specs.declared.keep.Keep.{Keep}
use Rattle.ttp_world.specs.declared.keep.Keep.TheVariants as keep
use Rattle.line_reader.specs.TraceLines.{keep_text, back_text}
use Rattle.whole_trace.specs.Whole.{WholeTrace}
use Rattle.shown_slot.specs.Trace.{first_text}
use Rattle.picture_text.specs.Picture.{ended}
use Rattle.view_laws.specs.Titles.{texts_of_nodes, texts_of_hosts, texts_of_slot}
use Rattle.view_laws.specs.Titles.{texts_of_trace, is_of_slot, texts_of_lines}
use Rattle.view_laws.proofs.LineStarts.{of-other}
use Rattle.view_laws.proofs.SlotTitles.{filter-flat, one-alone, left_out, nodes-own}
use Rattle.view_laws.proofs.SlotTitles.{nodes-other, hosts-own, hosts-other}
use Rattle.view_laws.proofs.TextLines.{IsTextOf}
use Rattle.ttp_world.proofs.SmallTests.{spelled}

-- Without their line feeds.

abbrev bare : List ℕ → List ℕ
bare line = take (length line - 1) line

bare-ended : (text : List ℕ) → bare (ended text) ≡ text
bare-ended text =
    let long = length-append text newline in
    let count : length (ended text) - 1 ≡ length text = omega (arith, long) in
    ap (λ (n : ℕ). take n (ended text)) count ∙ take-append_seam text newline

bare-each : (texts : Lines) → map bare (map ended texts) ≡ texts
bare-each [] = refl
bare-each (text ∷ texts) = λ i. bare-ended text i ∷ bare-each texts i

pub bare-text : (text : List ℕ) (trace : WholeTrace) → IsTextOf (lines_of text) trace
    → texts_of_lines text ≡ texts_of_trace trace
bare-text text trace is = ap (map bare) is.are ∙ bare-each (texts_of_trace trace)

-- The lines of a slot.

keep-no : (t : ℕ) (k : Keep) → is_of_slot t (keep_text k) ≡ false
keep-no t (keep.Yes start) = refl
keep-no t (keep.No rule slot) = refl

back-no : (t : ℕ) (b : Option Back) → filter (is_of_slot t) (option_to_list (option_map back_text b)) ≡ []
back-no t None = refl
back-no t (Some (back.Yes start)) = refl
back-no t (Some (back.No rule slot)) = refl

slot-own : (trace : WholeTrace) (t : ℕ) → filter (is_of_slot t) (texts_of_slot trace t) ≡ texts_of_slot trace t
slot-own trace t =
    filter-append (is_of_slot t) (texts_of_nodes trace t) (texts_of_hosts trace t)
    ∙ (λ i. nodes-own trace t i ++ hosts-own trace t i)

slot-other : (trace : WholeTrace) (t s : ℕ) → t < 2 ^ 64 → s < 2 ^ 64 → s ≢ t
    → filter (is_of_slot t) (texts_of_slot trace s) ≡ []
slot-other trace t s few less ne =
    let none = λ (rest : List ℕ). of-other t s rest few less ne in
    filter-append (is_of_slot t) (texts_of_nodes trace s) (texts_of_hosts trace s)
    ∙ (λ i. nodes-other trace (is_of_slot t) s none i ++ hosts-other trace (is_of_slot t) s none i)

pub texts-of_slot : (trace : WholeTrace) (t : ℕ) → length trace.slots ≤ 20000 → t < length trace.slots
    → filter (is_of_slot t) (texts_of_trace trace) ≡ texts_of_slot trace t
texts-of_slot trace t few within =
    let p = is_of_slot t in
    let ends : Lines = option_to_list (option_map back_text trace.back) in
    let slots : Lines = flat_map (texts_of_slot trace) (below (length trace.slots)) in
    left_out (p (first_text trace)) (first_text trace) (filter p (slots ++ (keep_text trace.keep ∷ ends))) refl
    ∙ filter-append p slots (keep_text trace.keep ∷ ends)
    ∙ (λ i. (filter-flat p (texts_of_slot trace) (below (length trace.slots))
    ∙ one-alone (λ s. filter p (texts_of_slot trace s)) 0 (length trace.slots) t
    (omega arith) (omega (arith, within)) (λ s less ne.
    slot-other trace t s (omega (arith, within, few)) (omega (arith, less, few)) ne)
    ∙ slot-own trace t) i
    ++ (left_out (p (keep_text trace.keep)) (keep_text trace.keep) (filter p ends) (keep-no t trace.keep)
    ∙ back-no t trace.back) i)
    ∙ append-nil (texts_of_slot trace t)

-- How often a line stands.

filter-within : (p q : List ℕ → Bool) (lines : Lines) → ((line : List ℕ) → q line ≡ true → p line ≡ true)
    → filter q lines ≡ filter q (filter p lines)
filter-within p q [] each = refl
filter-within p q (line ∷ lines) each =
    by_first (p line) (q line) line (filter q lines) (filter p lines) refl refl
    (each line) (filter-within p q lines each)
  where
    by_first : (b c : Bool) (one : List ℕ) (some others : Lines) → q one ≡ c → p one ≡ b → (q one ≡ true → p one ≡ true)
        → some ≡ filter q others
        → cond c (one ∷ some) some ≡ filter q (cond b (one ∷ others) others)
    by_first true c one some others has is may rest =
        (λ i. cond c (one ∷ rest i) (rest i))
        ∙ sym (ap (λ (x : Bool). cond x (one ∷ filter q others) (filter q others)) has)
    by_first false true one some others has is may rest = let no : false ≡ true = sym is ∙ may has in cc
    by_first false false one some others has is may rest = rest

-- lists with the same lines of a kind have each of these as often
pub count-same : (p : List ℕ → Bool) (xs ys : Lines) (line : List ℕ) → filter p xs ≡ filter p ys → p line ≡ true
    → count_by (bytes_eq line) xs ≡ count_by (bytes_eq line) ys
count-same p xs ys line same is =
    let each : (other : List ℕ) → bytes_eq line other ≡ true → p other ≡ true = λ other e.
    ap p (sym (spelled line other e)) ∙ is in
    sym (length-filter (bytes_eq line) xs)
    ∙ ap length (filter-within p (bytes_eq line) xs each ∙ ap (filter (bytes_eq line)) same
    ∙ sym (filter-within p (bytes_eq line) ys each))
    ∙ length-filter (bytes_eq line) ys
