use Rattle.std.proofs.Common.{rules}
use Rattle.errand.proofs.Moves.{asks}
use Rattle.errand.proofs.ends.Giver.ask.Goals as goal

pub store-requires : goal.store-requires
store-requires g c = (
  search rules,
  search rules,
  asks g.D.Errand.needs g.D.Errand.does _ _ _
      c.args.job c.requires.may (search rules),
)
