-- What a run of a cluster stands for.
use Rattle.std.specs.Prelude.{◌≡◌, ℕ, ◌<◌, ◌≤◌, List, length, take}
use Rattle.ttp_base.specs.NodeSet.{most_nodes}
use Rattle.ttp_world.specs.declared.medl.Medl.{Medl}
use Rattle.ttp_world.specs.declared.node.NodeState.{NodeState}
use Rattle.ttp_world.specs.declared.script.Script.{Script}
use Rattle.ttp_world.specs.ZerosWorld.{all_zeros, zeros_world}
use Rattle.run_costs.specs.States.{state_at, AreShown}
use Rattle.controller.specs.PlantStands.{PlantStandsFor, ShowsNode}
use Rattle.controller.specs.PlantView.{PlantView}
use Rattle.run_costs.specs.Told.{IsSeenOf}
use Rattle.run_costs.specs.declared.run.Run.{Run}
use Rattle.run_costs.specs.declared.seen_run.SeenRun.{SeenRun}

-- the first states, so many, are what is shown of a plant's nodes
pub record AreOfPlant (plant : PlantView) (n : ℕ) (states : List NodeState) : Type 0 where
  pub room : length states ≡ most_nodes
  pub shown : (k : ℕ) → k < n → ShowsNode plant k (state_at states k)

-- a run stands for the world after so many slots in which frames carry zeros, and from its first slot on its states are
-- those of its nodes
pub record IsRunAfter (run : Run) (list : Medl) (script : Script) (slots : ℕ) : Type 0 where
  pub same : run.cluster.plant.list ≡ list
  pub plant : PlantStandsFor run.cluster.plant script (zeros_world list script slots)
  pub zeros : run.cluster.zeros ≡ all_zeros list
  pub room : length run.states ≡ most_nodes
  pub states : 0 < slots → AreShown list script (zeros_world list script slots) (take (length list.slots) run.states)

-- a run is one of a list, whatever it has done
pub record IsRunOfList (run : Run) (list : Medl) : Type 0 where
  pub same : run.cluster.plant.list ≡ list
  pub zeros : run.cluster.zeros ≡ all_zeros list

-- it has done so many slots, and what was seen of it was seen of these
pub record IsSeenAfter (run : SeenRun) (list : Medl) (script : Script) (slots : ℕ) : Type 0 where
  pub count : run.slots ≡ slots
  pub within : slots ≤ script.slots
  pub stands : IsRunAfter run.run list script slots
  pub seen : IsSeenOf list script slots run.seen
