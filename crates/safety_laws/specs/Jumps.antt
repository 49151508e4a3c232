-- A node whose clock has jumped, up to the first slot of its own.
use Rattle.std.specs.Prelude.{◌≡◌, ℕ, ◌⊎◌}
use Rattle.safety_laws.specs.Plan.{Jumping, FaultPlan}
use Rattle.safety_laws.specs.Fates.{Falling, Fallen, fate_of}

-- node k was lost by a jump in an earlier slot or in this one, and no slot of its own came since, but perhaps this one
abbrev pub HasJumped : FaultPlan → ℕ → ℕ → ℕ → Type 0
HasJumped plan slot k since =
    (fate_of plan slot k ≡ Falling Jumping since) ⊎ (fate_of plan slot k ≡ Fallen Jumping since slot)
