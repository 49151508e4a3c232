use Rattle.std.proofs.Common.{rules}
use Rattle.errand.proofs.Moves.{begins_job}
use Rattle.errand.proofs.ends.begin.Goals as goal

pub compare_exchange-requires : goal.compare_exchange-requires
compare_exchange-requires g c =
    (search rules, search rules, begins_job g.D.Errand.needs g.D.Errand.does _ _ _ (search rules))
