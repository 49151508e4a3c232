use Rattle.fault_runs.proofs.Words.{◌≡◌, ◌+◌, ◌++◌, ◌∷◌, [], take, ap, sym, ◌∙◌, map-append, take_more, map, Event}
use Rattle.fault_runs.proofs.Words.{tried_of}
use Rattle.fault_runs.proofs.tried.add_each.Goals as goal

pub loop-fault-preserved : goal.loop-fault-preserved
loop-fault-preserved c =
    let tried = tried_of c.args.common.now.list.now c.args.common.now.script.now in
    let faults = c.args.faults.now in
    let i = c.loop-fault.fault-index in
    let fault = c.fault-item.result in
    let more : take i faults ++ fault ∷ [] ≡ take (i + 1) faults =
    ap (λ (e : Event). take i faults ++ e ∷ []) c.fault-item.is
    ∙ sym (take_more faults i fault c.loop-fault-test.true) in (
      c.in_ok-push.ensures.items
          ∙ (λ j. c.loop-fault.invariant.0 j ++ c.in_ok-try_one.ensures.tried j ∷ [])
          ∙ sym (map-append tried (take i faults) (fault ∷ []))
          ∙ ap (map tried) more,
      c.in_ok-try_one.ensures.run,
    )
