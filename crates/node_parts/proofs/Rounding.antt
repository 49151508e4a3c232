-- Half a number, rounded towards zero: twice that is the number, within one.
use Rattle.std.proofs.Common.{◌≡◌, ℤ, pos, negsuc, ◌+ℤ◌, ◌*ℤ◌, ◌≤ℤ◌, arith}
use Rattle.std.specs.Prelude.{int_div, int_rem}
use Rattle.std.proofs.lemmas.Int.{ints, quot-rem, rem_below}
use Rattle.ttp_world.proofs.Averages.{rem_small as small_rem}

-- a number is about twice another
abbrev pub IsAboutTwice : ℤ → ℤ → Type 0
IsAboutTwice q z = ((q +ℤ q) ≤ℤ (z +ℤ pos 1)) × (z ≤ℤ ((q +ℤ q) +ℤ pos 1))

about_of : (z q r : ℤ) → q *ℤ pos 2 +ℤ r ≡ z → (negsuc 0 ≤ℤ r) × (r ≤ℤ pos 1) → IsAboutTwice q z
about_of z q r is small = (omega (arith, ints, is, small.0, small.1), omega (arith, ints, is, small.0, small.1))

pub half_about : (z : ℤ) → IsAboutTwice (int_div z (pos 2)) z
half_about z =
    about_of z (int_div z (pos 2)) (int_rem z (pos 2)) (quot-rem z (pos 2))
    (small_rem (int_rem z (pos 2)) (rem_below z (pos 2) (omega arith)))
