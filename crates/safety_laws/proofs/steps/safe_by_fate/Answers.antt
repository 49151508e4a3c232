use Rattle.safety_laws.proofs.Among.{left-after, left-sender, left-lost}
use Rattle.safety_laws.proofs.SafeByFate.{safe-after, correct-sound, faulty-leave}
use Rattle.safety_laws.proofs.steps.safe_by_fate.Goals as goal

pub returns-clause-correct : goal.returns-clause-correct
returns-clause-correct c = λ list script start plan turn history is. correct-sound is

pub returns-clause-gone : goal.returns-clause-gone
returns-clause-gone c = λ list script start plan turn history is. left-after is.stands

pub returns-clause-sender : goal.returns-clause-sender
returns-clause-sender c = λ list script start plan turn history is. left-sender is.stands

pub returns-clause-other : goal.returns-clause-other
returns-clause-other c = λ list script start plan turn history is. left-lost is.stands

pub returns-clause-leave : goal.returns-clause-leave
returns-clause-leave c = λ list script start plan turn history is. faulty-leave is

pub returns-clause-safe : goal.returns-clause-safe
returns-clause-safe c = λ list script start plan turn history is. safe-after is
