use Rattle.safety_laws.proofs.ReturnsByPlan.{returned-by_plan}
use Rattle.safety_laws.proofs.rejoin.laws.returned_by_plan.Goals as goal

pub returns : goal.returns
returns c = returned-by_plan
