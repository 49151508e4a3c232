use Rattle.safety_laws.proofs.Kept.{by_plan, kept-stands}
use Rattle.safety_laws.proofs.runs.stands.Goals as goal

pub returns : goal.returns
returns c = λ list script slot numbers valid script_valid kept legal after within.
    let planned = by_plan list script slot valid script_valid kept in (
      planned.start,
      (planned.from, kept-stands list script slot valid script_valid kept numbers legal after within),
    )
