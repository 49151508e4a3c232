use Rattle.cluster_run.proofs.Words.{refl, subst, arith, same_Some}
use Rattle.cluster_run.specs.Clusters.{AreClusterNodes}
use Rattle.cluster_run.proofs.NewNodes.{new_bytes, new_nodes, new_stands}
use Rattle.cluster_run.proofs.cluster.Cluster.make.Goals as goal

pub invariant_of-result : goal.invariant_of-result
invariant_of-result c =
    let list = c.args.list in
    let script = c.args.script in
    let nodes = c.in_ok-nodes.nodes in
    let new = c.in_ok-nodes.ensures in
    record {
      valid = c.requires.list;
      valid_script = c.requires.script;
      few = omega arith;
      bytes = new_bytes list script;
      nodes_are = λ n is. subst (AreClusterNodes list script 0) (same_Some nodes n is)
          (record { are = new.are; stands = new_stands list script nodes new });
    }

pub returns-clause-stands : goal.returns-clause-stands
returns-clause-stands c =
    record { done = refl; nodes = new_nodes c.args.list c.args.script c.in_ok-nodes.nodes c.in_ok-nodes.ensures }
