use Rattle.ttp_top.proofs.ForAbove.{promise, schedule_promise, sample_promise, run_promise, keeps_promise}
use Rattle.ttp_top.proofs.ForAbove.{precision_promise, verify_promise, modes_promise}
use Rattle.bench_call.proofs.bench.Goals as goal

pub returns-clause-promise : goal.returns-clause-promise
returns-clause-promise g c = promise _ _ _ _ c.obey.ensures.follows c.obey.ensures.no_form

pub returns-clause-run : goal.returns-clause-run
returns-clause-run g c = λ list script form.
    run_promise list script _ _ _ (rw form at (returns-clause-promise g c))

pub returns-clause-sample : goal.returns-clause-sample
returns-clause-sample g c = λ list slots number form.
    sample_promise list slots number _ _ _ (rw form at (returns-clause-promise g c))

pub returns-clause-verify : goal.returns-clause-verify
returns-clause-verify g c = λ list script trace form.
    verify_promise list script trace _ _ _ (rw form at (returns-clause-promise g c))

pub returns-clause-modes : goal.returns-clause-modes
returns-clause-modes g c = λ list script trace form.
    modes_promise list script trace _ _ _ (rw form at (returns-clause-promise g c))

pub returns-clause-schedule : goal.returns-clause-schedule
returns-clause-schedule g c = λ list form. schedule_promise list _ _ _ (rw form at (returns-clause-promise g c))

pub returns-clause-keeps : goal.returns-clause-keeps
returns-clause-keeps g c = λ list script form.
    keeps_promise list script _ _ _ (rw form at (returns-clause-promise g c))

pub returns-clause-precision : goal.returns-clause-precision
returns-clause-precision g c = λ list script node form.
    precision_promise list script node _ _ _ (rw form at (returns-clause-promise g c))

pub returns-clause-kept : goal.returns-clause-kept
returns-clause-kept g c = (returns-clause-promise g c).kept
