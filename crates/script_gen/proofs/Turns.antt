-- Nodes that are some slots apart, but less than a round, are not one.
use Rattle.script_gen.proofs.Words.{◌≡◌, ◌≢◌, ℕ, ◌+◌, ◌*◌, ◌/◌, ◌%◌, ◌<◌, ◌≤◌, inl, inr, arith, mul-le-mul_right}
use Rattle.script_gen.proofs.Words.{cases_lt}
use Rattle.std.proofs.Math.Nat.{mod-add-div'}

pub turns-differ : (n a b : ℕ) → a < b → b < a + n → a % n ≢ b % n
turns-differ n a b less near same =
    let first : a % n + (a / n) * n ≡ a = mod-add-div' a n in
    let second : b % n + (b / n) * n ≡ b = mod-add-div' b n in
    elim (cases_lt (a / n) (b / n)) [
      | inl lower ↦
          let more : (a / n + 1) * n ≤ (b / n) * n = mul-le-mul_right n (omega arith) in
          let round : (a / n + 1) * n ≡ (a / n) * n + n = omega arith in
          omega arith
      | inr upper ↦
          let fewer : (b / n) * n ≤ (a / n) * n = mul-le-mul_right n upper in
          omega arith
    ]
