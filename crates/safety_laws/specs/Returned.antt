-- What a plan tells of a script whose armed nodes are guaranteed their place again.
use Rattle.std.specs.Prelude.{◌≡◌, ℕ, suc, ◌+◌, ◌-◌, ◌*◌, ◌<◌, ◌≤◌, false, true, length, Some, None}
use Rattle.std.specs.List.{AllByRecursion}
use Rattle.ttp_world.specs.declared.medl.Medl.{Medl}
use Rattle.ttp_world.specs.declared.script.Script.{Script}
use Rattle.ttp_world.specs.BackSafety.{is_armed_among}
use Rattle.ttp_world.specs.Hypothesis.{ClusterStart}
use Rattle.ttp_world.specs.Returning.{back_faulty_after, is_back_correct_after}
use Rattle.ttp_world.specs.Script.{is_armed}
use Rattle.safety_laws.specs.Plan.{FaultPlan, incident_at, enters}
use Rattle.safety_laws.specs.Fates.{fate_of, is_sound_after, lost_since}

-- after a slot node k is sound again: in the round up to it it did not enter, and no node was lost
pub record IsSoundAgain (plan : FaultPlan) (slot k : ℕ) : Type 0 where
  pub late : plan.nodes ≤ slot
  pub sound : is_sound_after plan slot k ≡ true
  pub quiet : (turn : ℕ) → turn ≤ slot → slot < turn + plan.nodes → incident_at plan turn ≡ None
  pub entered : (turn : ℕ) → turn ≤ slot → slot < turn + plan.nodes → enters plan turn k ≡ false

-- The plan is that of the script's faulty nodes and of its arm lines: the nodes that are correct after a slot of the
-- run are sound, each faulty node that was not armed since is lost in the slot in which it became faulty, and each node
-- that was armed four rounds ago is sound again for a round.
pub record IsPlanOfReturns (list : Medl) (script : Script) (start : ClusterStart) (plan : FaultPlan) : Type 0 where
  pub sound : (slot k : ℕ) → k < length list.slots → start.slot + slot < script.slots
      → is_back_correct_after list script (start.slot + slot) k ≡ true
      → is_sound_after plan slot k ≡ true
  pub faulty : (slot : ℕ) → start.slot + slot < script.slots
      → AllByRecursion (λ f.
      is_armed_among script f.node f.slot (suc (start.slot + slot) - f.slot) ≡ false
      → lost_since (fate_of plan slot f.node) ≡ Some (f.slot - start.slot))
      (back_faulty_after list script (start.slot + slot))
  pub returned : (slot k : ℕ) → k < length list.slots → start.slot + slot < script.slots
      → 4 * length list.slots ≤ suc (start.slot + slot)
      → is_armed script k (suc (start.slot + slot) - 4 * length list.slots) ≡ true
      → IsSoundAgain plan slot k
