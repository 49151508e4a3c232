-- The start of a cluster: on a silent bus one node starts, and alone.
use Rattle.std.specs.Prelude.{◌≡◌, ◌≢◌, ℕ, ◌<◌, length, Some}
use Rattle.ttp_world.specs.declared.medl.Medl.{Medl}
use Rattle.ttp_world.specs.declared.script.Script.{Script}
use Rattle.ttp_world.specs.Hypothesis.{ClusterStart, start_slot}

-- on a silent bus this node would start in this slot, and no other in it or before
pub record StartsAlone (list : Medl) (script : Script) (start : ClusterStart) : Type 0 where
  pub node : start.node < length list.slots
  pub due : start_slot list script start.node ≡ Some start.slot
  pub others : (k slot : ℕ) → k < length list.slots → k ≢ start.node → start_slot list script k ≡ Some slot
      → start.slot < slot
