-- Tests of numbers and of truth values.
use Rattle.ttp_world.proofs.Words.{◌≡◌, ℤ, ◌≤ℤ◌, true, arith, ℕ, suc, false, Bool, ◌&&◌, ap, ◌∙◌, ◌≤◌, neg_ℤ}
use Rattle.ttp_world.proofs.Words.{unsigned_abs, refl, ◌||◌, ◌+◌, ◌*◌, ◌^◌, ◌<◌, List, bytes_eq, pos, ◌+ℤ◌, nat_tests}
use Rattle.ttp_world.proofs.Words.{ints, bytes_eq-Decides, int_le, ◌==◌}
use Rattle.std.proofs.lemmas.Grind.{pow_more}
use Rattle.ttp_world.specs.Hypothesis.{is_within_bound}
use Rattle.ttp_world.specs.Script.{IsWithinSpan}

pub le_of_test : (x y : ℤ) → int_le x y ≡ true → x ≤ℤ y
le_of_test x y holds = grind arith

pub not_zero : (n : ℕ) → (suc n == 0) ≡ false
not_zero n = grind (arith, nat_tests)

pub both : (a b : Bool) → a ≡ true → b ≡ true → (a && b) ≡ true
both a b one other = ap (λ x. x && b) one ∙ other

pub near_of_test : (w d : ℤ) → (int_le (neg_ℤ w) d && int_le d w) ≡ true → (neg_ℤ w ≤ℤ d) × (d ≤ℤ w)
near_of_test w d is = (grind (arith, ints), grind (arith, ints))

-- a number within a span is small
pub span-abs : (bound : ℕ) (z : ℤ) → IsWithinSpan bound z → unsigned_abs z ≤ bound
span-abs bound z within = omega (arith, ints, within.0, within.1)

pub and-true : (b : Bool) → b ≡ (b && true)
and-true true = refl
and-true false = refl

pub test_of_both : (bound z : ℤ) → neg_ℤ bound ≤ℤ z → z ≤ℤ bound → is_within_bound bound z ≡ true
test_of_both bound z p q = grind (arith, ints)

pub or_parts : (a b : Bool) → (a || b) ≡ false → (a ≡ false) × (b ≡ false)
or_parts true b e = grind arith
or_parts false b e = (refl, e)

-- a number of so many digits stays below the power of ten
pub below_power : (i number digit : ℕ) → number < 10 ^ i → digit < 10 → number * 10 + digit < 10 ^ (i + 1)
below_power i number digit small one = omega (arith, pow_more 10 i)

pub spelled : (w text : List ℕ) → bytes_eq w text ≡ true → w ≡ text
spelled w text same = (bytes_eq-Decides w text).0 same

pub plus_none : (z : ℤ) → z +ℤ pos 0 ≡ z
plus_none z = omega (arith, ints)
