use Rattle.std.proofs.Common.{rules}
use Rattle.errand.proofs.Moves.{begins}
use Rattle.errand.proofs.ends.hire.Goals as goal

pub load-requires : goal.load-requires
load-requires g c = (search rules, search rules, begins g.D.Errand.needs g.D.Errand.does _ _ _ (search rules))
