-- Faults that have shown themselves by the end of a run.
use Rattle.std.specs.Prelude.{◌≡◌, ℕ, ◌+◌, ◌-◌, ◌*◌, ◌≤◌, Bool, true, false, List, length}
use Rattle.std.specs.List.{AllByRecursion}
use Rattle.ttp_world.specs.declared.medl.Medl.{Medl}
use Rattle.ttp_world.specs.declared.script.Script.{Script}
use Rattle.ttp_world.specs.BackSafety.{is_armed_among}
use Rattle.ttp_world.specs.Hypothesis.{FaultyNode, faulty_nodes_after}
use Rattle.ttp_world.specs.Returning.{has_arm, back_faulty_after}

-- the nodes that are faulty after a slot by the one test or the other, each with the slot since when
abbrev pub faulty_nodes_if : Medl → Script → ℕ → Bool → List FaultyNode
faulty_nodes_if list script slot true = back_faulty_after list script slot
faulty_nodes_if list script slot false = faulty_nodes_after list script slot

-- two rounds before the end of a run or earlier, and not armed since
pub record IsOver (list : Medl) (script : Script) (faulty : FaultyNode) : Type 0 where
  pub early : faulty.slot + 2 * length list.slots ≤ script.slots
  pub unarmed : is_armed_among script faulty.node faulty.slot (script.slots - faulty.slot) ≡ false

-- each node that is faulty at the end of a run became so two rounds before it or earlier, and was not armed since
abbrev pub AreOver : Medl → Script → Type 0
AreOver list script =
    AllByRecursion (IsOver list script) (faulty_nodes_if list script (script.slots - 1) (has_arm script))
