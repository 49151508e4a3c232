-- Lists with commas between their words, a word at a time.
use Rattle.std.proofs.Common.{◌≡◌, ℕ, ◌+◌, ◌<◌, ◌≤◌, List, [], ◌∷◌, length, take, drop}
use Rattle.std.proofs.Common.{Option, Some, None, Bor, option_map, ap, ◌∙◌, arith}
use Rattle.std.specs.Prelude.{position}
use Rattle.std.specs.List.{slice_split, position_or_len}
use Rattle.std.proofs.lemmas.Bool.Decides.{nat_tests}
use Rattle.std.proofs.lemmas.List.Splits.{slice_split_first, slice_split_none}
use Rattle.std.proofs.lemmas.List.Sums.{fails_before_first}
use Rattle.whole_campaign.specs.Words.{is_comma, words_listed}

comma-at : (list : List ℕ) (end : ℕ) → position is_comma list ≡ Some end
    → (position_or_len is_comma list ≡ end) × (position_or_len is_comma list < length list)
comma-at list end here = (grind (arith, nat_tests), grind (arith, nat_tests))

pub first_listed-Some : (list : List ℕ) (end : ℕ) → position is_comma list ≡ Some end
    → words_listed list ≡ take end list ∷ words_listed (drop (end + 1) list)
first_listed-Some list end here =
    let at = comma-at list end here in
    slice_split_first is_comma list 0 at.1
    ∙ ap (λ (k : ℕ). take k list ∷ slice_split is_comma (drop (k + 1) list)) at.0

no_comma : (list : List ℕ) → position is_comma list ≡ None → length list ≤ position_or_len is_comma list
no_comma list nowhere = grind (arith, nat_tests)

pub first_listed-None : (list : List ℕ) → position is_comma list ≡ None → words_listed list ≡ list ∷ []
first_listed-None list nowhere =
    slice_split_none is_comma list
    (λ k d less. fails_before_first is_comma list k d (omega (arith, less, no_comma list nowhere)))

-- Walks over a list.

-- how much of it is left
abbrev pub length_left : Option (List ℕ) → ℕ
length_left None = 0
length_left (Some list) = length list + 1

-- the words that are left, as bytes of a text
abbrev pub bytes_left : Option (Bor (List ℕ)) → Option (List ℕ)
bytes_left left = option_map (λ (p : Bor (List ℕ)). p.now) left
