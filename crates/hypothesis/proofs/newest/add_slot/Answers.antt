use Rattle.hypothesis.proofs.Words.{refl}
use Rattle.hypothesis.proofs.SlotSteps.{newest-more}
use Rattle.hypothesis.proofs.newest.add_slot.Goals as goal

pub returns-clause-newest : goal.returns-clause-newest
returns-clause-newest c = λ list script start are is.
    newest-more list script start c.args.newest.now _ c.args.slot are is refl refl
