-- What the walk keeps of the slots of a run in which nodes come back.
use Rattle.std.specs.Prelude.{◌≡◌, ℕ, ◌+◌, ◌*◌, ◌%◌, ◌<◌, ◌≤◌, min, length, get_or}
use Rattle.ttp_base.specs.NodeSet.{most_nodes}
use Rattle.ttp_world.specs.declared.medl.Medl.{Medl}
use Rattle.ttp_world.specs.declared.script.Script.{Script}
use Rattle.ttp_world.specs.Hypothesis.{ClusterStart, numbers_of}
use Rattle.ttp_world.specs.Returning.{faulty_at, four_rounds}
use Rattle.hypothesis.specs.declared.newest.FaultySlot.{FaultySlot}
use Rattle.hypothesis.specs.declared.newest.NewestSlots.{NewestSlots}
use Rattle.hypothesis.specs.Standing.{HaveSameNodes}
use Rattle.hypothesis.specs.Walks.{joined_in}

-- what is kept of a slot
pub record IsFaultySlot (list : Medl) (script : Script) (start : ClusterStart) (slot : ℕ) (s : FaultySlot)
    : Type 0 where
  pub stayed : HaveSameNodes s.stayed (numbers_of (faulty_at list script start slot))
  pub joined : s.joined ≡ length (joined_in list script start slot)

-- six rounds of the largest cluster
abbrev pub kept_slots : ℕ
kept_slots = 6 * most_nodes

-- the newest slots before the next one, so many
pub record AreNewest (list : Medl) (script : Script) (start : ClusterStart) (newest : NewestSlots) : Type 0 where
  pub room : length newest.slots ≡ kept_slots
  pub told : (t : ℕ) (nothing : FaultySlot) → t < newest.end → newest.end ≤ t + kept_slots
      → IsFaultySlot list script start t (get_or newest.slots (t % kept_slots) nothing)

-- the slots before an end are all of the run in the four rounds from a slot on, and go no further
pub record HasRoundsFrom (list : Medl) (script : Script) (slot end : ℕ) : Type 0 where
  pub come : min (slot + four_rounds list) script.slots ≤ end
  pub near : end ≤ slot + four_rounds list
