use Rattle.safety_laws.proofs.Begins.{holds-begun}
use Rattle.safety_laws.proofs.WorldSteps.{holds-next}
use Rattle.safety_laws.proofs.steps.by_fate.Goals as goal

pub returns-clause-first : goal.returns-clause-first
returns-clause-first c = λ list script start plan new numbers is now. holds-begun is new numbers now

pub returns-clause-next : goal.returns-clause-next
returns-clause-next c = λ list script start plan turn new numbers t. holds-next t
