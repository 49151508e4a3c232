-- The words with their places are those that the reader of scripts cuts.
use Rattle.std.proofs.Common.{◌≡◌, ℕ, zero, suc, ◌+◌, ◌-◌, ◌<◌, Bool, true, false}
use Rattle.std.proofs.Common.{not, List, [], ◌∷◌, length, take, drop}
use Rattle.std.proofs.Common.{map, get_or, Option, Some, None, arith, refl, ap, sym, ◌∙◌, filter, add-one, drop-cons}
use Rattle.std.specs.List.{list_all}
use Rattle.std.proofs.lemmas.List.{get_or-drop, drop-drop, length-drop}
use Rattle.std.proofs.lemmas.List.Folds.{list_all_more}
use Rattle.std.proofs.lemmas.List.Splits.{slice_split-cons_yes}
use Rattle.std.proofs.Math.ListN.{drop_of_length-le}
use Rattle.script_text.specs.Lines.{is_blank, is_part, has_bytes, words_of_line}
use Rattle.script_errors.proofs.FromBelow.{words_of-empty, words_of-front, words_of-whole}
use Rattle.script_errors.specs.Spots.{spot_text, spot_texts, spots_from, spots_of}

-- a blank says nothing
past_blank : (line : List ℕ) (i : ℕ) → i < length line → is_blank (get_or line i 0) ≡ true
    → words_of_line (drop i line) ≡ words_of_line (drop (i + 1) line)
unfolding words_of_line
past_blank line i inside blank =
    ap words_of_line (drop-cons line i 0 inside ∙ ap (λ (k : ℕ). get_or line i 0 ∷ drop k line) (sym (add-one i)))
    ∙ ap (filter has_bytes) (slice_split-cons_yes is_blank (get_or line i 0) (drop (i + 1) line) blank)

-- where the word that has begun, or what is left, begins
abbrev text_from : List ℕ → ℕ → Option ℕ → List ℕ
text_from line i None = drop i line
text_from line i (Some s) = drop s line

-- the bytes from there are those of a word
abbrev GoesOn : List ℕ → ℕ → Option ℕ → Type 0
GoesOn line i None = Unit {0}
GoesOn line i (Some s) = (s < i) × (list_all is_part (take (i - s) (drop s line)) ≡ true)

-- the words from a place on
abbrev AreWordsFrom : List ℕ → ℕ → Option ℕ → Type 0
AreWordsFrom line i begun =
    map (spot_text line) (spots_from i begun (drop i line)) ≡ words_of_line (text_from line i begun)

here : (line : List ℕ) (s i : ℕ) → s < i → get_or (drop s line) (i - s) 0 ≡ get_or line i 0
here line s i within =
    get_or-drop s line (i - s) 0 ∙ ap (λ (k : ℕ). get_or line k 0) (let e : s + (i - s) ≡ i = omega arith in e)

past : (line : List ℕ) (s i : ℕ) → s < i → drop (i - s + 1) (drop s line) ≡ drop (i + 1) line
past line s i within =
    drop-drop (i - s + 1) s line ∙ ap (λ (k : ℕ). drop k line) (let e : s + (i - s + 1) ≡ i + 1 = omega arith in e)

one_more : (line : List ℕ) (s i : ℕ) → s < i → i < length line
    → list_all is_part (take (i - s) (drop s line)) ≡ true → is_part (get_or line i 0) ≡ true
    → list_all is_part (take (i + 1 - s) (drop s line)) ≡ true
one_more line s i within inside parts part =
    let count : i + 1 - s ≡ i - s + 1 = omega arith in
    let step = list_all_more is_part (drop s line) (i - s) 0 (omega (arith, length-drop s line)) in
    ap (λ (k : ℕ). list_all is_part (take k (drop s line))) count
    ∙ step ∙ rw (here line s i within, parts, part) refl

first_byte : (line : List ℕ) (i : ℕ) → i < length line → is_part (get_or line i 0) ≡ true
    → list_all is_part (take (i + 1 - i) (drop i line)) ≡ true
first_byte line i inside part =
    let count : i + 1 - i ≡ 0 + 1 = omega arith in
    let at : get_or (drop i line) 0 0 ≡ get_or line i 0 = get_or-drop i line 0 0
    ∙ ap (λ (k : ℕ). get_or line k 0) (let e : i + 0 ≡ i = omega arith in e) in
    let step = list_all_more is_part (drop i line) 0 0 (omega (arith, length-drop i line)) in
    ap (λ (k : ℕ). list_all is_part (take k (drop i line))) count ∙ step ∙ rw (at, part) refl

blank_is_no_part : (b : ℕ) → is_blank b ≡ false → is_part b ≡ true
blank_is_no_part b plain = ap not plain

step : (line : List ℕ) (i : ℕ) (begun : Option ℕ) (blank : Bool) → i < length line
    → is_blank (get_or line i 0) ≡ blank → GoesOn line i begun
    → ((next : Option ℕ) → GoesOn line (i + 1) next → AreWordsFrom line (i + 1) next)
    → map (spot_text line) (spots_from i begun (get_or line i 0 ∷ drop (i + 1) line))
    ≡ words_of_line (text_from line i begun)
step line i None true inside is goes more = rw is (more None tt ∙ sym (past_blank line i inside is))
step line i None false inside is goes more =
    rw is (more (Some i) (omega arith, first_byte line i inside (blank_is_no_part (get_or line i 0) is)))
step line i (Some s) true inside is goes more =
    let cut = words_of-front (drop s line) (i - s) (omega (arith, goes.0)) (omega (arith, goes.0, length-drop s line))
    goes.1 (ap is_blank (here line s i goes.0) ∙ is) in
    rw is (ap (λ (ws : List (List ℕ)). take (i - s) (drop s line) ∷ ws) (more None tt)
    ∙ ap (λ (bs : List ℕ). take (i - s) (drop s line) ∷ words_of_line bs) (sym (past line s i goes.0)) ∙ sym cut)
step line i (Some s) false inside is goes more =
    rw is (more (Some s) (
      omega (arith, goes.0),
      one_more line s i goes.0 inside goes.1 (blank_is_no_part (get_or line i 0) is),
    ))

at_end : (line : List ℕ) (i : ℕ) (begun : Option ℕ) → i ≡ length line → GoesOn line i begun
    → map (spot_text line) (spots_from i begun []) ≡ words_of_line (text_from line i begun)
at_end line i None end goes = sym (ap words_of_line (drop_of_length-le line (omega arith)) ∙ words_of-empty)
at_end line i (Some s) end goes =
    sym (words_of-whole (drop s line) (i - s) (omega (arith, goes.0)) (omega (arith, goes.0, length-drop s line)) goes.1
    ∙ ap (λ (ws : List (List ℕ)). take (i - s) (drop s line) ∷ ws) words_of-empty)

words_from : (n : ℕ) (line : List ℕ) (i : ℕ) (begun : Option ℕ) → i + n ≡ length line → GoesOn line i begun
    → AreWordsFrom line i begun
words_from zero line i begun size goes =
    let none : drop i line ≡ [] = drop_of_length-le line (omega arith) in
    ap (λ (bs : List ℕ). map (spot_text line) (spots_from i begun bs)) none
    ∙ at_end line i begun (omega arith) goes
words_from (suc n) line i begun size goes =
    let inside : i < length line = omega arith in
    let cut : drop i line ≡ get_or line i 0 ∷ drop (i + 1) line =
    drop-cons line i 0 inside ∙ ap (λ (k : ℕ). get_or line i 0 ∷ drop k line) (sym (add-one i)) in
    ap (λ (bs : List ℕ). map (spot_text line) (spots_from i begun bs)) cut
    ∙ step line i begun (is_blank (get_or line i 0)) inside refl goes
    (λ next on. words_from n line (i + 1) next (omega (arith, size)) on)

pub texts_are_words : (line : List ℕ) → spot_texts line (spots_of line) ≡ words_of_line line
unfolding spots_of
texts_are_words line = words_from (length line) line 0 None (omega arith) tt
