use Rattle.std.proofs.Common.{rules}
use Rattle.errand.proofs.Moves.{stops}
use Rattle.errand.proofs.ends.stop.Goals as goal

pub store-requires : goal.store-requires
store-requires g c = (search rules, search rules, stops g.D.Errand.needs g.D.Errand.does _ _ _ (search rules))
