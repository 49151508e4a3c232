use Rattle.safety_laws.proofs.SafeBack.{safe-back, back-sound}
use Rattle.safety_laws.proofs.steps.back_safe_by_fate.Goals as goal

pub returns-clause-correct : goal.returns-clause-correct
returns-clause-correct c = back-sound

pub returns-clause-safe : goal.returns-clause-safe
returns-clause-safe c = safe-back
