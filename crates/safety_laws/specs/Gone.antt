-- By when each faulty node has gone.
use Rattle.std.specs.Prelude.{suc, ◌+◌, ◌*◌, ◌≤◌, ◌&&◌, length, IsTrue}
use Rattle.std.specs.List.{AllByRecursion}
use Rattle.ttp_world.specs.declared.medl.Medl.{Medl}
use Rattle.ttp_world.specs.declared.script.Script.{Script}
use Rattle.ttp_world.specs.Diary.{History}
use Rattle.ttp_world.specs.Hypothesis.{FaultyNode, faulty_nodes_after}
use Rattle.ttp_world.specs.Safety.{newest_slot, has_left, is_out}

-- each of n nodes that became faulty in a slot f has left from slot f + 2n - 2 on, and is a member at no correct node
abbrev pub FaultyLeave : Medl → Script → History → Type 0
FaultyLeave list script history =
    AllByRecursion (λ (f : FaultyNode). f.slot + 2 * length list.slots ≤ suc (suc (newest_slot history))
    → IsTrue (has_left history f.node && is_out list script history f.node))
    (faulty_nodes_after list script (newest_slot history))
