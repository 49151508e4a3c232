use Rattle.trace_check.proofs.Words.{◌++◌, ◌∙◌, ap, sym, add-one, first_payloads, all_zeros}
use Rattle.trace_check.proofs.incoming.first_payloads.Goals as goal

pub loop-preserved : goal.loop-preserved
loop-preserved c =
    let list = c.args.list.now in
    c.in_ok-push_zeros.ensures ∙ (λ i. c.loop.invariant i ++ all_zeros list)
    ∙ ap (first_payloads list) (sym (add-one c.loop.counter))
