use Rattle.safety_laws.proofs.Company.{ran-company, company-in}
use Rattle.safety_laws.proofs.BeganTogether.{began}
use Rattle.safety_laws.proofs.clocks.runs_as_company.Goals as goal

pub returns-clause-smaller : goal.returns-clause-smaller
returns-clause-smaller c = company-in

pub returns-clause-began : goal.returns-clause-began
returns-clause-began c = began

pub returns-clause-company : goal.returns-clause-company
returns-clause-company c = λ list script start plan may_grow slot history follows.
    ran-company follows may_grow slot history
