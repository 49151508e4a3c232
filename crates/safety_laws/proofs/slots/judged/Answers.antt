use Rattle.safety_laws.proofs.Verdicts.{judged-correct, judged-tentative, leaves-denied, judged-incorrect}
use Rattle.safety_laws.proofs.Verdicts.{judged-outside, judged-none, judged-silent, judged-whatever}
use Rattle.safety_laws.proofs.Deliveries.{delivers-correct}
use Rattle.safety_laws.proofs.slots.judged.Goals as goal

pub returns-clause-correct : goal.returns-clause-correct
returns-clause-correct c = judged-correct

pub returns-clause-tentative : goal.returns-clause-tentative
returns-clause-tentative c = judged-tentative

pub returns-clause-denied : goal.returns-clause-denied
returns-clause-denied c = λ x sender y members is hears. leaves-denied x sender members is hears y

pub returns-clause-incorrect : goal.returns-clause-incorrect
returns-clause-incorrect c = judged-incorrect

pub returns-clause-outside : goal.returns-clause-outside
returns-clause-outside c = judged-outside

pub returns-clause-no_frame : goal.returns-clause-no_frame
returns-clause-no_frame c = judged-none

pub returns-clause-silent : goal.returns-clause-silent
returns-clause-silent c = judged-silent

pub returns-clause-whatever : goal.returns-clause-whatever
returns-clause-whatever c = judged-whatever

pub returns-clause-delivers : goal.returns-clause-delivers
returns-clause-delivers c = λ x sent deviation is hears judged. delivers-correct x sent deviation is hears judged.entry
