use Rattle.safety_laws.proofs.Together.{clocks-hold, run-by_plan}
use Rattle.safety_laws.proofs.runs.by_plan.Goals as goal

pub returns : goal.returns
returns c = λ list script start plan turn numbers is follows. run-by_plan list script start plan is
    (clocks-hold list script start plan is.planned.valid follows) turn numbers
