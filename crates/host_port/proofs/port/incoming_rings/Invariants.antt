use Rattle.host_port.proofs.RingLists.{AreNew}
use Rattle.host_port.proofs.port.incoming_rings.Given as goal

abbrev pub invariant-loop-k : goal.invariant-loop-k
invariant-loop-k l = AreNew l.list l.node l.k l.rings l.writers
