-- One digit more of a binary number.
use Rattle.wave_text.proofs.Words.{◌≡◌, ℕ, zero, suc, ◌+◌, ◌-◌, ◌/◌, ◌%◌, ◌<◌, ◌≤◌, [], ◌∷◌, ◌++◌, refl, arith, nat_lt}
use Rattle.wave_text.proofs.Words.{false, binary, binary_number}

pub no_binary : (v : ℕ) → binary 0 v ≡ []
unfolding binary
no_binary v = refl

pub binary_step : (digits v : ℕ) → 0 < digits
    → binary digits v ≡ binary (digits - 1) (v / 2) ++ (48 + v % 2) ∷ []
unfolding binary
binary_step zero v some = absurd (omega arith)
binary_step (suc digits) v some =
    let one_less : suc digits - 1 ≡ digits = omega arith in
    rw one_less refl

pub no_number : (v : ℕ) → binary_number 0 v ≡ []
unfolding binary_number
no_number v = refl

ltb-false_of : (a b : ℕ) → b ≤ a → nat_lt a b ≡ false
ltb-false_of a b high = grind arith

pub number_step : (more v : ℕ) → 0 < more → 2 ≤ v
    → binary_number more v ≡ binary_number (more - 1) (v / 2) ++ (48 + v % 2) ∷ []
unfolding binary_number
number_step zero v some big = absurd (omega arith)
number_step (suc more) v some big =
    let one_less : suc more - 1 ≡ more = omega arith in
    let large : nat_lt v 2 ≡ false = ltb-false_of v 2 big in
    rw (one_less, large) refl

pub number_digit : (more v : ℕ) → 0 < more → v < 2 → binary_number more v ≡ (48 + v) ∷ []
unfolding binary_number
number_digit zero v some small = absurd (omega arith)
number_digit (suc more) zero some small = refl
number_digit (suc more) (suc zero) some small = refl
number_digit (suc more) (suc (suc v)) some small = absurd (omega arith)

pub ruleset digits = (no_binary, binary_step, no_number, number_step, number_digit)
