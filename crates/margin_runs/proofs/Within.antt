-- Values within the limits of a script's lines.
use Rattle.std.proofs.Common.{◌≡◌, ℕ, zero, suc, ◌+◌, ◌*◌, ◌<◌, ◌≤◌, ◌^◌, ℤ, pos, ◌+ℤ◌, ◌≤ℤ◌, Option, Some, None, arith}
use Rattle.std.proofs.Common.{to_z, of_z, w64}
use Rattle.std.specs.Prelude.{All, neg_ℤ, unsigned_abs}
use Rattle.std.proofs.lemmas.Int.{ints, fits_signed_from_abs, to_z-of_z}
use Rattle.std.proofs.lemmas.List.Elements.{All-nil, All-cons}
use Rattle.ttp_world.specs.Events.{IsWithinSpan}
use Rattle.clock_margins.specs.Sweeps.{values_from}
use Rattle.margin_runs.specs.Tries.{clock_limit}

pub limit-few : (slot : Option ℕ) → clock_limit slot ≤ 1000000
limit-few None = omega arith
limit-few (Some slot) = omega arith

-- Values from a first one on, of which the last is within the limit, are all within it.
values-within : (most : ℕ) (first : ℤ) (count : ℕ) → neg_ℤ (pos most) ≤ℤ first
    → (first +ℤ pos count) ≤ℤ (pos most +ℤ pos 1)
    → All (IsWithinSpan most) (values_from first count)
values-within most first zero least greatest = All-nil (IsWithinSpan most)
values-within most first (suc count) least greatest =
    All-cons (IsWithinSpan most) first (values_from (first +ℤ pos 1) count)
    (omega (arith, ints, least), omega (arith, ints, greatest))
    (values-within most (first +ℤ pos 1) count (omega (arith, ints, least)) (omega (arith, ints, greatest)))

-- some of a sweep's
pub some-within : (most reach done some : ℕ) → reach ≤ most → done + some ≤ 2 * reach + 1
    → All (IsWithinSpan most) (values_from (neg_ℤ (pos reach) +ℤ pos done) some)
some-within most reach done some few less =
    values-within most (neg_ℤ (pos reach) +ℤ pos done) some (omega (arith, ints, few)) (omega (arith, ints, few, less))

-- a number of microticks in 64 bits is itself
pub same-within : (most : ℕ) (z : ℤ) → most ≤ 1000000 → IsWithinSpan most z → to_z w64 (of_z w64 z) ≡ z
same-within most z few within =
    let less : unsigned_abs z < 2 ^ 63 = omega (arith, ints, few, within.0, within.1) in
    to_z-of_z w64 z (fits_signed_from_abs w64 z less)
