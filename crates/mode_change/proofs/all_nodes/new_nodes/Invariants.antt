use Rattle.mode_change.proofs.Nodes.{AreNew}
use Rattle.mode_change.proofs.all_nodes.new_nodes.Given as goal

abbrev pub invariant-loop : goal.invariant-loop
invariant-loop l = AreNew l.nodes l.list l.counter
