use Rattle.safety_laws.proofs.Returned.{by_plan, returned-stands}
use Rattle.safety_laws.proofs.rejoin.laws.stands.Goals as goal

pub returns : goal.returns
returns c = λ list script slot numbers valid script_valid kept legal after within.
    let told = by_plan list script slot valid script_valid kept in
    (told.start, (told.from, returned-stands list script slot valid script_valid kept numbers legal after within))
