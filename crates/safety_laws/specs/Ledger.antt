-- What a sound node's members and counts come from, by a plan alone.
use Rattle.std.specs.Prelude.{ℕ, zero, suc, ◌+◌, Bool, true, false, ◌==◌, List, [], ◌∷◌, if◌then◌else◌}
use Rattle.ttp_base.specs.NodeSet.{with_node, without_node}
use Rattle.safety_laws.specs.Plan.{FaultPlan, sender, enters}
use Rattle.safety_laws.specs.Fates.{is_good_slot, is_first_slot}

-- the members after a slot, as every sound node has them that is not in doubt
abbrev pub planned_members : FaultPlan → ℕ → List ℕ
planned_members plan zero = plan.starter ∷ []
planned_members plan (suc slot) =
    if is_good_slot plan (suc slot) then with_node (planned_members plan slot) (sender plan (suc slot))
    else without_node (planned_members plan slot) (sender plan (suc slot))

-- what a node saw since its newest own slot, or else since the start or its entry
pub record Ledger : Type 0 where
  -- it has had a slot of its own since it began
  pub own : Bool
  -- its newest own slot, and else the start or the slot of its entry
  pub base : ℕ
  -- how many good slots came after that
  pub seen : ℕ
  -- how many first own slots of lost nodes did
  pub bad : ℕ

-- the ledger of a node that begins anew in a slot
abbrev pub opened : Bool → ℕ → Ledger
opened own slot = record { own = own; base = slot; seen = 0; bad = 0 }

-- with another node's slot, which is good, is a lost node's first, or neither
abbrev pub with_slot : Bool → Bool → Ledger → Ledger
with_slot good first ledger = record {
  own = ledger.own;
  base = ledger.base;
  seen = (if good then 1 else 0) + ledger.seen;
  bad = (if first then 1 else 0) + ledger.bad;
}

-- node k's after a slot
abbrev pub ledger_of : FaultPlan → ℕ → ℕ → Ledger
ledger_of plan zero k = opened (sender plan 0 == k) 0
ledger_of plan (suc slot) k =
    if sender plan (suc slot) == k then opened true (suc slot)
    else (if enters plan (suc slot) k then opened false (suc slot)
    else with_slot (is_good_slot plan (suc slot)) (is_first_slot plan (suc slot)) (ledger_of plan slot k))
