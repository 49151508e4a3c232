-- The number that decimal digits write, one digit after another.
use Rattle.script_text.proofs.Terms.{◌≡◌, true, ℕ, ◌+◌, ◌-◌, ◌*◌, ◌^◌, ◌<◌, ◌≤◌, List, length, get_or, take, arith, ap}
use Rattle.script_text.proofs.Terms.{◌∙◌, is_ascii_digit, digit_value, nat_tests, decimal_value}
use Rattle.std.proofs.Common.{lit<}
use Rattle.std.proofs.Math.Nat.{pow-le-pow_right}
use Rattle.std.proofs.lemmas.Grind.{pow_more}
use Rattle.std.proofs.lemmas.Int.Digits.{digits_value_more}

digit_value-of_digit : (b : ℕ) → is_ascii_digit b ≡ true → digit_value b ≡ b - 48
digit_value-of_digit b digit = grind (arith, nat_tests)

-- one digit more
pub number_in-more : (word : List ℕ) (i : ℕ) → i < length word → is_ascii_digit (get_or word i 0) ≡ true
    → decimal_value (take (i + 1) word) ≡ decimal_value (take i word) * 10 + (get_or word i 0 - 48)
number_in-more word i within digit =
    digits_value_more 10 word i within
    ∙ ap (λ (d : ℕ). decimal_value (take i word) * 10 + d) (digit_value-of_digit (get_or word i 0) digit)

pub digit-small : (b : ℕ) → is_ascii_digit b ≡ true → b - 48 < 10
digit-small b digit = grind (arith, nat_tests)

pub within_word : (i number : ℕ) → number < 10 ^ i → i < 9 → number * 10 + 9 < 2 ^ 32
within_word i number small few =
    let most : 10 ^ (i + 1) ≤ 10 ^ 9 = pow-le-pow_right {n = 10} (lit< tt) {i = i + 1} {j = 9} (omega arith) in
    omega (arith, pow_more 10 i, most)
