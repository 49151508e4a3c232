use Rattle.trace_check.proofs.Words.{◌≡◌, ◌∙◌, ap, sym, subst, arith, slice_get}
use Rattle.trace_check.proofs.FirstOutgoing.{AreFirst, AreFirst-none, AreFirst-more, first-holds}
use Rattle.trace_check.proofs.outgoing.Outgoing.new.Goals as goal

pub loop-node-init : goal.loop-node-init
loop-node-init c = AreFirst-none c.new-newest.result c.new-chosen.result c.args.list.now
    c.new-newest.ensures c.new-chosen.ensures

pub loop-node-preserved : goal.loop-node-preserved
loop-node-preserved c =
    AreFirst-more c.loop-node.newest c.push.new.self c.loop-node.chosen c.push-in-loop-node.new.self c.args.list.now
    c.loop-node.node c.get.result.now c.zeros-payload.result c.loop-node.invariant c.in_ok-push.ensures.ok
    c.in_ok-push-2.ensures.ok (ap (slice_get c.args.list.now.slots) (sym c.from.ensures) ∙ c.get.ensures)
    c.zeros-payload.ensures

pub returns : goal.returns
returns c = λ script.
    let n : c.loop-node.node ≡ _ = omega arith in
    first-holds _ c.args.list.now script
    (subst (AreFirst c.into_vec.result.items c.into_vec-2.result.items c.args.list.now) n
    (record {
      newest_is = c.into_vec.ensures ∙ c.loop-node.invariant.newest_is;
      chosen_is = c.into_vec-2.ensures ∙ c.loop-node.invariant.chosen_is;
    }))
