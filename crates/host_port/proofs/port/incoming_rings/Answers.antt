use Rattle.host_port.proofs.Names.{arith}
use Rattle.host_port.proofs.RingLists.{new_more, new_all}
use Rattle.host_port.proofs.port.incoming_rings.Goals as goal

pub loop-k-preserved : goal.loop-k-preserved
loop-k-preserved c = rw (c.in_ok-push-3.ensures.ok, c.in_ok-push-4.ensures.ok)
    (new_more c.args.list.now c.args.node c.loop-k.k c.loop-k.rings c.loop-k.writers c.in_ok-ring-2.ring
    c.in_ok-ring-2.writer c.loop-k.invariant c.in_ok-ring-2.ensures.own c.in_ok-ring-2.ensures.writer)

pub returns-clause-writers : goal.returns-clause-writers
returns-clause-writers c = λ from. rw c.into_vec-2.ensures
    (new_all c.args.list.now c.args.node c.loop-k.k c.loop-k.rings c.loop-k.writers c.loop-k.invariant (omega arith)
    from)
