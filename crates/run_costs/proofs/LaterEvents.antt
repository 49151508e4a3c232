-- A run goes on by a script with one event more, which comes later.
use Rattle.std.proofs.Common.{ℕ, ◌≤◌, List, length, take, ap, subst, ◌∙◌, arith}
use Rattle.ttp_world.specs.declared.medl.Medl.{Medl}
use Rattle.ttp_world.specs.declared.node.NodeState.{NodeState}
use Rattle.ttp_world.specs.declared.script.Event.{Event}
use Rattle.ttp_world.specs.declared.script.Script.{Script}
use Rattle.ttp_world.specs.Diary.{History}
use Rattle.ttp_world.specs.Past.{state_of}
use Rattle.ttp_world.specs.World.{node_past}
use Rattle.controller.specs.Agreement.{begins_at}
use Rattle.run_costs.proofs.FromBelow.{agree-more, node_past-same}
use Rattle.campaign.specs.Tried.{with_fault}
use Rattle.ttp_world.specs.ZerosWorld.{zeros_world}
use Rattle.run_costs.specs.States.{AreShown}
use Rattle.run_costs.proofs.Later.{zeros-longer}
use Rattle.ttp_world.proofs.ZerosWorlds.{length-zeros_world}
use Rattle.controller.specs.PlantStands.{PlantStandsFor}
use Rattle.run_costs.specs.declared.run.Run.{Run}
use Rattle.run_costs.specs.Standing.{IsRunAfter}

module _ (list : Medl) (script : Script) (more : Event) (slots : ℕ) (later : slots ≤ begins_at more) where
  -- what is shown of the nodes is the same
  shown-longer : (states : List NodeState) → AreShown list script (zeros_world list script slots) states
      → AreShown list (with_fault script more) (zeros_world list (with_fault script more) slots) states
  shown-longer states shown =
      let longer = with_fault script more in
      let history = zeros_world list script slots in
      let few : length history ≤ begins_at more = omega (arith, later, length-zeros_world list script slots) in
      record {
        count = shown.count;
        nodes = λ k node.
            shown.nodes k node
            ∙ ap state_of (node_past-same (agree-more script more (begins_at more) (omega arith)) list history k few)
            ∙ ap (λ (h : History). state_of (node_past list longer h k)) (zeros-longer list script more slots later);
      }

  pub run-longer : (run : Run) → IsRunAfter run list script slots
      → PlantStandsFor run.cluster.plant (with_fault script more) (zeros_world list script slots)
      → IsRunAfter run list (with_fault script more) slots
  run-longer run was plant = record {
    same = was.same;
    plant = subst (PlantStandsFor run.cluster.plant (with_fault script more))
        (zeros-longer list script more slots later) plant;
    zeros = was.zeros;
    room = was.room;
    states = λ some. shown-longer (take (length list.slots) run.states) (was.states some);
  }
