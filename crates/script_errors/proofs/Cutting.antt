-- A line cut into words.
use Rattle.std.proofs.Common.{◌≡◌, ℕ, ◌+◌, ◌≤◌, Bool, true, false, List, [], ◌∷◌, ◌++◌, length, drop}
use Rattle.std.proofs.Common.{Option, Some, None, arith, refl, ap, sym, ◌∙◌}
use Rattle.std.proofs.Math.ListN.{drop_of_length-le}
use Rattle.script_text.specs.Lines.{is_blank}
use Rattle.script_errors.specs.declared.spots.Spot.{Spot}
use Rattle.script_errors.specs.declared.error.Part.{Part}
use Rattle.script_errors.specs.Spots.{spots_of, spots_from}
use Rattle.ttp_world.specs.declared.medl.Medl.{Medl}
use Rattle.script_errors.specs.Errors.{word_errors}

pub spots_end : (line : List ℕ) (items : List Spot) (begun : Option ℕ) (place : ℕ)
    → items ++ spots_from place begun (drop place line) ≡ spots_of line → place ≡ length line
    → items ++ spots_from (length line) begun [] ≡ spots_of line
spots_end line items begun place so_far end =
    let here = rw end at so_far in
    let none : drop (length line) line ≡ [] = drop_of_length-le line (omega arith) in
    ap (λ (bs : List ℕ). items ++ spots_from (length line) begun bs) (sym none) ∙ here

-- no more words than bytes

abbrev begun_count : Option ℕ → ℕ
begun_count None = 0
begun_count (Some start) = 1

count_step : (place : ℕ) (begun : Option ℕ) (b : ℕ) (bs : List ℕ) (blank : Bool) → is_blank b ≡ blank
    → ((p : ℕ) (o : Option ℕ) → length (spots_from p o bs) ≤ length bs + begun_count o)
    → length (spots_from place begun (b ∷ bs)) ≤ length (b ∷ bs) + begun_count begun
count_step place None b bs true is more = let m = more (place + 1) None in rw is (omega (arith, m))
count_step place None b bs false is more = let m = more (place + 1) (Some place) in rw is (omega (arith, m))
count_step place (Some start) b bs true is more = let m = more (place + 1) None in rw is (omega (arith, m))
count_step place (Some start) b bs false is more = let m = more (place + 1) (Some start) in rw is (omega (arith, m))

count_from : (bs : List ℕ) (place : ℕ) (begun : Option ℕ)
    → length (spots_from place begun bs) ≤ length bs + begun_count begun
count_from [] place None = omega arith
count_from [] place (Some start) = omega arith
count_from (b ∷ bs) place begun = count_step place begun b bs (is_blank b) refl (count_from bs)

pub count_spots : (line : List ℕ) → length (spots_of line) ≤ length line
unfolding spots_of
count_spots line = omega (arith, count_from line 0 None)

-- Parts and words gone over together.

no_words : (list : Option Medl) (slots : ℕ) (node : Option ℕ) (number : ℕ) (line : List ℕ) (parts : List Part)
    → word_errors list slots node number line parts [] ≡ []
no_words list slots _ number line [] = refl
no_words list slots _ number line (p ∷ parts) = refl

pub word_errors_end : (list : Option Medl) (slots : ℕ) (node : Option ℕ) (number : ℕ) (line : List ℕ)
    (parts : List Part) (words : List Spot) (i : ℕ) → length parts ≡ length words → i ≡ length words
    → word_errors list slots node number line (drop i parts) (drop i words) ≡ []
word_errors_end list slots node number line parts words i same end =
    let none : drop i words ≡ [] = drop_of_length-le words (omega arith) in
    ap (word_errors list slots node number line (drop i parts)) none
    ∙ no_words list slots node number line (drop i parts)
