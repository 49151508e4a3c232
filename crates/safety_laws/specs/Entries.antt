-- The slots of a plan in which nodes enter.
use Rattle.std.specs.Prelude.{◌≡◌, ℕ, ◌<◌, ◌≤◌, true, false, ◌⊎◌}
use Rattle.safety_laws.specs.Plan.{FaultPlan, enters}

-- none enters up to a slot
abbrev pub NoneEnters : FaultPlan → ℕ → Type 0
NoneEnters plan slot = (turn k : ℕ) → turn ≤ slot → enters plan turn k ≡ false

-- the newest entry up to a slot: by a return, or else the start
pub record IsNewestEntry (plan : FaultPlan) (slot newest : ℕ) : Type 0 where
  pub within : newest ≤ slot
  pub by : (newest ≡ 0) ⊎ ((k : ℕ) × (enters plan newest k ≡ true))
  pub none : (turn k : ℕ) → newest < turn → turn ≤ slot → enters plan turn k ≡ false
