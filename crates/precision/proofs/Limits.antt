-- How large the bounds of a valid list are.
use Rattle.std.proofs.Common.{ℕ, ◌*◌, ◌≤◌, ℤ, pos, negsuc, ◌*ℤ◌, ◌≤ℤ◌, length}
use Rattle.std.proofs.Common.{mul-le-mul, arith}
use Rattle.std.proofs.lemmas.Int.{ints}
use Rattle.ttp_world.specs.declared.medl.Medl.{Medl}
use Rattle.ttp_world.specs.Medl.{IsWithin, IsValid}
use Rattle.ttp_world.specs.Returning.{needed_back}
use Rattle.ttp_world.proofs.Lists.{nodes-most}
use Rattle.precision.specs.Spread.{needed_rejoining}
use Rattle.precision.proofs.Rounds.{product_up, product_upto}

-- what a list's drift comes to in some slots
pub share_limits : (d : ℤ) (m most : ℕ) → IsWithin 0 1000 d → m ≤ most → IsWithin 0 (1000 * most) (d *ℤ pos m)
share_limits (pos a) m most small few =
    let many : a ≤ 1000 = omega (arith, ints, small.1) in
    let product : a * m ≤ 1000 * most = mul-le-mul {n₂ = 1000} {m₂ = most} many few in
    (product_up (pos a) m small.0, omega (arith, ints, product))
share_limits (negsuc a) m most small few = absurd (omega (arith, ints, small.0))

pub rejoining_limits : (list : Medl) → IsValid list → IsWithin 0 144000 (list.drift *ℤ pos (6 * length list.slots))
rejoining_limits list valid =
    share_limits list.drift (6 * length list.slots) 144 valid.drift (omega (arith, nodes-most list valid))

-- The window that is asked where nodes may return.

pub needed_window : (list : Medl) → IsValid list → needed_rejoining list ≤ℤ needed_back list
needed_window list valid =
    let more = product_upto list.drift (6 * length list.slots) (8 * length list.slots) valid.drift.0 (omega arith) in
    omega (arith, ints, valid.error.0, more)
