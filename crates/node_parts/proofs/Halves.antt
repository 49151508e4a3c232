-- Where three of four numbers lie between two bounds, half the sum of the middle two does too.
use Rattle.std.proofs.Common.{◌≡◌, ◌+◌, ◌≤◌, ℤ, pos, neg_ℤ, ◌+ℤ◌, FitsSigned, w64, ◌≤ℤ◌, Bool, true}
use Rattle.std.proofs.Common.{false, cond, [], ◌∷◌, refl, sym, subst, arith}
use Rattle.std.specs.Prelude.{int_div, count_by}
use Rattle.std.specs.Int.{int_min, int_max}
use Rattle.std.proofs.lemmas.Int.{ints, clamps}
use Rattle.ttp_world.specs.Clock.{middle_half}
use Rattle.ttp_world.proofs.Averages.{Between, half_between}
use Rattle.node_parts.specs.Notes.{most_deviation, IsDeviation, is_value_between}
use Rattle.node_parts.proofs.MiddleTwo.{paired_sum, middle_half-paired}

-- The sum of the middle two, where one of the four may be anything.

-- half a number lies between two bounds
abbrev pub HalfBetween : ℤ → ℤ → ℤ → Type 0
HalfBetween low high z = ((low +ℤ low) ≤ℤ z) × (z ≤ℤ (high +ℤ high))

both_between : (low high m n : ℤ) → Between low high m → Between low high n → HalfBetween low high (m +ℤ n)
both_between low high m n p q = (omega (arith, ints, p.0, q.0), omega (arith, ints, p.1, q.1))

without_fourth : (low high a b c d : ℤ) → Between low high a → Between low high b → Between low high c
    → HalfBetween low high (paired_sum a b (int_min c d) (int_max c d))
without_fourth low high a b c d p q r =
    both_between low high (int_max (int_min a b) (int_min c d)) (int_min (int_max a b) (int_max c d))
    (omega (arith, ints, clamps, p.0, q.0), omega (arith, ints, clamps, p.1, r.1))
    (omega (arith, ints, clamps, p.0, r.0), omega (arith, ints, clamps, p.1, q.1))

without_third : (low high a b c d : ℤ) → Between low high a → Between low high b → Between low high d
    → HalfBetween low high (paired_sum a b (int_min c d) (int_max c d))
without_third low high a b c d p q r =
    both_between low high (int_max (int_min a b) (int_min c d)) (int_min (int_max a b) (int_max c d))
    (omega (arith, ints, clamps, p.0, q.0), omega (arith, ints, clamps, p.1, r.1))
    (omega (arith, ints, clamps, p.0, r.0), omega (arith, ints, clamps, p.1, q.1))

without_second : (low high a b c d : ℤ) → Between low high a → Between low high c → Between low high d
    → HalfBetween low high (paired_sum a b (int_min c d) (int_max c d))
without_second low high a b c d p q r =
    both_between low high (int_max (int_min a b) (int_min c d)) (int_min (int_max a b) (int_max c d))
    (omega (arith, ints, clamps, q.0, r.0), omega (arith, ints, clamps, p.1, q.1))
    (omega (arith, ints, clamps, p.0, q.0), omega (arith, ints, clamps, q.1, r.1))

without_first : (low high a b c d : ℤ) → Between low high b → Between low high c → Between low high d
    → HalfBetween low high (paired_sum a b (int_min c d) (int_max c d))
without_first low high a b c d p q r =
    both_between low high (int_max (int_min a b) (int_min c d)) (int_min (int_max a b) (int_max c d))
    (omega (arith, ints, clamps, q.0, r.0), omega (arith, ints, clamps, p.1, q.1))
    (omega (arith, ints, clamps, p.0, q.0), omega (arith, ints, clamps, q.1, r.1))

both_of_test : (low high z : ℤ) → is_value_between low high z ≡ true → Between low high z
both_of_test low high z h = (grind (arith, ints), grind (arith, ints))

-- three of four lie between the bounds
three_between : (low high a b c d : ℤ) (w x y z : Bool) → is_value_between low high a ≡ w
    → is_value_between low high b ≡ x
    → is_value_between low high c ≡ y → is_value_between low high d ≡ z
    → 3 ≤ (((0 + cond w 1 0) + cond x 1 0) + cond y 1 0) + cond z 1 0
    → HalfBetween low high (paired_sum a b (int_min c d) (int_max c d))
three_between low high a b c d true true true z p q r s enough =
    without_fourth low high a b c d (both_of_test low high a p) (both_of_test low high b q) (both_of_test low high c r)
three_between low high a b c d true true false true p q r s enough =
    without_third low high a b c d (both_of_test low high a p) (both_of_test low high b q) (both_of_test low high d s)
three_between low high a b c d true false true true p q r s enough =
    without_second low high a b c d (both_of_test low high a p) (both_of_test low high c r) (both_of_test low high d s)
three_between low high a b c d false true true true p q r s enough =
    without_first low high a b c d (both_of_test low high b q) (both_of_test low high c r) (both_of_test low high d s)
three_between low high a b c d true true false false p q r s enough = absurd (omega (arith, enough))
three_between low high a b c d true false true false p q r s enough = absurd (omega (arith, enough))
three_between low high a b c d true false false true p q r s enough = absurd (omega (arith, enough))
three_between low high a b c d true false false false p q r s enough = absurd (omega (arith, enough))
three_between low high a b c d false true true false p q r s enough = absurd (omega (arith, enough))
three_between low high a b c d false true false true p q r s enough = absurd (omega (arith, enough))
three_between low high a b c d false true false false p q r s enough = absurd (omega (arith, enough))
three_between low high a b c d false false true true p q r s enough = absurd (omega (arith, enough))
three_between low high a b c d false false true false p q r s enough = absurd (omega (arith, enough))
three_between low high a b c d false false false true p q r s enough = absurd (omega (arith, enough))
three_between low high a b c d false false false false p q r s enough = absurd (omega (arith, enough))

-- so does the average of four
pub middle_half-between : (low high a b c d : ℤ) → 3 ≤ count_by (is_value_between low high) (a ∷ b ∷ c ∷ d ∷ [])
    → (low ≤ℤ middle_half (a ∷ b ∷ c ∷ d ∷ [])) × (middle_half (a ∷ b ∷ c ∷ d ∷ []) ≤ℤ high)
middle_half-between low high a b c d enough =
    let sum = paired_sum a b (int_min c d) (int_max c d) in
    let holds : HalfBetween low high sum =
    three_between low high a b c d (is_value_between low high a) (is_value_between low high b)
    (is_value_between low high c)
    (is_value_between low high d) refl refl refl refl enough in
    subst (Between low high) (sym (middle_half-paired a b c d)) (half_between low high sum holds.0 holds.1)

-- Four deviations: the sum of the middle two fits 64 bits, and half of it is a deviation.

deviations_between : (a b c d : ℤ) → IsDeviation a → IsDeviation b → IsDeviation c
    → HalfBetween (neg_ℤ (pos most_deviation)) (pos most_deviation) (paired_sum a b (int_min c d) (int_max c d))
deviations_between a b c d p q r = without_fourth (neg_ℤ (pos most_deviation)) (pos most_deviation) a b c d p q r

fits_between : (z : ℤ) → HalfBetween (neg_ℤ (pos most_deviation)) (pos most_deviation) z → FitsSigned w64 z
fits_between z h = omega (arith, ints, h.0, h.1)

pub deviations_fit : (a b c d : ℤ) → IsDeviation a → IsDeviation b → IsDeviation c
    → FitsSigned w64 (paired_sum a b (int_min c d) (int_max c d))
deviations_fit a b c d p q r = fits_between _ (deviations_between a b c d p q r)

pub deviations_half : (a b c d : ℤ) → IsDeviation a → IsDeviation b → IsDeviation c
    → IsDeviation (int_div (paired_sum a b (int_min c d) (int_max c d)) (pos 2))
deviations_half a b c d p q r =
    let holds : HalfBetween (neg_ℤ (pos most_deviation)) (pos most_deviation)
    (paired_sum a b (int_min c d) (int_max c d)) =
    deviations_between a b c d p q r in
    half_between (neg_ℤ (pos most_deviation)) (pos most_deviation) (paired_sum a b (int_min c d) (int_max c d)) holds.0
    holds.1
