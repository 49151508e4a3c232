use Rattle.std.proofs.Common.{◌≡◌}
use Rattle.std.specs.Prelude.{flat_map}
use Rattle.ttp_base.specs.NodeSet.{below}
use Rattle.campaign.specs.Tried.{faults_of}
use Rattle.single_faults.proofs.tried.faults_in.Given as goal

-- those of the nodes so far
abbrev pub invariant-loop-node : goal.invariant-loop-node
invariant-loop-node l = l.all ≡ flat_map (faults_of l.list l.script l.row l.slot) (below l.node)
