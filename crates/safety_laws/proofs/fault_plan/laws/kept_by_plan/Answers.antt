use Rattle.safety_laws.proofs.KeptPlan.{kept-plan}
use Rattle.safety_laws.proofs.fault_plan.laws.kept_by_plan.Goals as goal

pub returns : goal.returns
returns c = kept-plan
