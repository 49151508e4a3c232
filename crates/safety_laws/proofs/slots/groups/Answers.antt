use Rattle.safety_laws.proofs.Groups.{correct-group, incorrect-group, lacked-group, holds-correct, holds-wrong}
use Rattle.safety_laws.proofs.Groups.{holds-tentative, holds-sent}
use Rattle.safety_laws.proofs.slots.groups.Goals as goal

pub returns-clause-correct : goal.returns-clause-correct
returns-clause-correct c = λ x group sender is holds apart hears. correct-group x group is holds sender apart hears

pub returns-clause-incorrect : goal.returns-clause-incorrect
returns-clause-incorrect c = λ x group sender p members is holds listed has other lacks hears.
    incorrect-group x group is holds sender p members listed has other lacks hears

pub returns-clause-lacked : goal.returns-clause-lacked
returns-clause-lacked c = λ x group sender members is holds first lacks hears.
    lacked-group x group is holds sender members first lacks hears

pub returns-clause-after_correct : goal.returns-clause-after_correct
returns-clause-after_correct c = λ x group deviation is holds judged. holds-correct x group is holds deviation judged

pub returns-clause-after_wrong : goal.returns-clause-after_wrong
returns-clause-after_wrong c = λ x group v deviation is holds judged wrong apart.
    holds-wrong x group is holds v deviation judged wrong apart

pub returns-clause-after_tentative : goal.returns-clause-after_tentative
returns-clause-after_tentative c = λ x group deviation is holds judged first.
    holds-tentative x group is holds deviation judged first

pub returns-clause-after_own : goal.returns-clause-after_own
returns-clause-after_own c = holds-sent
