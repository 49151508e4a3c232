-- A plant that takes the run in which frames carry zeros, slot by slot.
use Rattle.std.proofs.Common.{◌≡◌, ℕ, ◌≤◌, take, List, length, ap, ◌∙◌, arith}
use Rattle.std.proofs.lemmas.List.{get_or-take, length-take-le}
use Rattle.ttp_base.specs.NodeSet.{most_nodes}
use Rattle.ttp_world.specs.declared.medl.Medl.{Medl}
use Rattle.ttp_world.specs.declared.node.NodeState.{NodeState}
use Rattle.ttp_world.specs.declared.script.Script.{Script}
use Rattle.ttp_world.specs.Diary.{History}
use Rattle.ttp_world.specs.Past.{state_of}
use Rattle.ttp_world.specs.World.{node_past}
use Rattle.run_costs.specs.States.{off_state, AreShown}
use Rattle.controller.specs.PlantStands.{PlantStandsFor}
use Rattle.controller.specs.PlantView.{PlantView}
use Rattle.run_costs.specs.Standing.{AreOfPlant}

-- the states that are taken down are those of what the plant stands for
pub plant-shown : (list : Medl) (script : Script) (history : History) (plant : PlantView) (n : ℕ)
    (states : List NodeState) → plant.list ≡ list → n ≡ length list.slots → length list.slots ≤ most_nodes
    → PlantStandsFor plant script history → AreOfPlant plant n states
    → AreShown list script history (take (length list.slots) states)
plant-shown list script history plant n states same count small stands are = record {
  count = length-take-le (length list.slots) states (omega (arith, are.room, small));
  nodes = λ k node.
      get_or-take (length list.slots) states k off_state node
      ∙ are.shown k (omega (arith, count, node)) script history stands
      ∙ ap (λ (l : Medl). state_of (node_past l script history k)) same;
}
