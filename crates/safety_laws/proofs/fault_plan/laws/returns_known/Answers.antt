use Rattle.safety_laws.proofs.FateTells.{armed-fallen}
use Rattle.safety_laws.proofs.Returns.{listens-until, entry-good, quiet-within}
use Rattle.safety_laws.proofs.fault_plan.laws.returns_known.Goals as goal

pub returns-clause-armed : goal.returns-clause-armed
returns-clause-armed c = λ plan slot k good is.
    let fallen = armed-fallen plan slot k good is in
    (fallen.change, (fallen.since, (fallen.shown, (fallen.was, fallen.early))))

pub returns-clause-listens : goal.returns-clause-listens
returns-clause-listens c = listens-until

pub returns-clause-entry : goal.returns-clause-entry
returns-clause-entry c = entry-good

pub returns-clause-quiet : goal.returns-clause-quiet
returns-clause-quiet c = quiet-within
