use Rattle.mode_change.proofs.Nodes.{IsEntering}
use Rattle.mode_change.proofs.all_nodes.know_slot.Given as goal

abbrev pub invariant-loop-node : goal.invariant-loop-node
invariant-loop-node l = IsEntering l.plant l.chosen l.fn.nodes l.nodes l.list l.node
