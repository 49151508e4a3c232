-- What is so of a cluster between two slots.
use Rattle.std.specs.Prelude.{ℕ, ◌≤◌, Option}
use Rattle.std.specs.Option.{ForSome}
use Rattle.ttp_world.specs.declared.medl.Medl.{Medl}
use Rattle.ttp_world.specs.declared.script.Script.{Script}
use Rattle.ttp_world.specs.Medl.{IsValid}
use Rattle.ttp_world.specs.Script.{IsValidScript}
use Rattle.cluster_run.specs.declared.nodes.Nodes.{Nodes}
use Rattle.cluster_run.specs.Choosing.{AreBytesBefore}
use Rattle.cluster_run.specs.Nodes.{AreNodesOf}
use Rattle.cluster_run.specs.Slots.{StandsForSome}
use Rattle.cluster_run.specs.Standing.{nodes_view}

-- There is a place for each node in all that slots share, and the nodes stand for the numbers of as many slots as were
-- done.
pub record AreClusterNodes (list : Medl) (script : Script) (done : ℕ) (nodes : Nodes) : Type 0 where
  pub are : AreNodesOf list done nodes
  pub stands : StandsForSome list script done (nodes_view nodes)

-- list and script are valid, and there are nodes until memory was refused
pub record IsClusterWithin (list : Medl) (script : Script) (done : ℕ) (nodes : Option Nodes) : Type 0 where
  pub valid : IsValid list
  pub valid_script : IsValidScript list script
  pub few : done ≤ script.slots
  pub bytes : AreBytesBefore list script done
  pub nodes_are : ForSome nodes (AreClusterNodes list script done)
