-- Whose slot it is: each node has one slot in a round.
use Rattle.safety_laws.proofs.PlanWords.{◌≡◌, ℕ, ◌+◌, ◌-◌, ◌*◌, ◌/◌, ◌%◌, ◌<◌, ◌≤◌, ap, ◌∙◌, inl, inr, mod-lt, arith}
use Rattle.safety_laws.proofs.PlanWords.{mod-add-div', cases_lt, mod-mul-add, FaultPlan, sender}
use Rattle.std.proofs.Math.Nat.{mul-le-mul_right}

-- the first turn of k among those from a on
own_turn : (n a k : ℕ) → 0 < n → k < n → (u : ℕ) × ((a ≤ u) × (u < a + n) × (u % n ≡ k))
own_turn n a k some small =
    let whole : a % n + (a / n) * n ≡ a = mod-add-div' a n in
    let less : a % n < n = mod-lt a some in
    elim (cases_lt k (a % n)) [
      | inl before ↦
          let next : ((a / n + 1) * n + k) % n ≡ k = mod-mul-add (a / n + 1) n k small in
          let more : (a / n + 1) * n ≡ (a / n) * n + n = omega arith in
          ((a / n + 1) * n + k, (omega arith, omega arith, next))
      | inr from ↦
          let here : ((a / n) * n + k) % n ≡ k = mod-mul-add (a / n) n k small in
          ((a / n) * n + k, (omega arith, omega arith, here))
    ]

-- two turns of one node are a round apart
turns-apart : (n a b : ℕ) → 0 < n → a < b → a % n ≡ b % n → a + n ≤ b
turns-apart n a b some less same =
    let first : a % n + (a / n) * n ≡ a = mod-add-div' a n in
    let second : b % n + (b / n) * n ≡ b = mod-add-div' b n in
    elim (cases_lt (a / n) (b / n)) [
      | inl lower ↦
          let more : (a / n + 1) * n ≤ (b / n) * n = mul-le-mul_right n (omega arith) in
          let round : (a / n + 1) * n ≡ (a / n) * n + n = omega arith in
          omega arith
      | inr upper ↦
          let fewer : (b / n) * n ≤ (a / n) * n = mul-le-mul_right n upper in
          absurd (omega arith)
    ]

-- Of a plan.

-- each node has a slot in each round
pub next_turn : (plan : FaultPlan) (from k : ℕ) → 0 < plan.nodes → k < plan.nodes
    → (turn : ℕ) × ((from ≤ turn) × (turn < from + plan.nodes) × (sender plan turn ≡ k))
next_turn plan from k some small =
    let found = own_turn plan.nodes (plan.starter + from) k some small in
    let back : plan.starter + (found.0 - plan.starter) ≡ found.0 = omega (arith, found.1.0) in (
      found.0 - plan.starter,
      (omega (arith, found.1.0), omega (arith, found.1.0, found.1.1), ap (λ t. t % plan.nodes) back ∙ found.1.2),
    )

-- and its slots are a round apart
pub turns_apart : (plan : FaultPlan) (turn later : ℕ) → 0 < plan.nodes → turn < later
    → sender plan turn ≡ sender plan later
    → turn + plan.nodes ≤ later
turns_apart plan turn later some less same =
    let apart = turns-apart plan.nodes (plan.starter + turn) (plan.starter + later) some (omega arith) same in
    omega (arith, apart)
