use Rattle.std.proofs.Common.{rules}
use Rattle.errand.proofs.Moves.{sleeps}
use Rattle.errand.proofs.ends.rest.Goals as goal

pub store-requires : goal.store-requires
store-requires g c = (
  search rules,
  search rules,
  sleeps g.D.Errand.needs g.D.Errand.does _ _ _ _ _ _
      (search rules) (search rules) c.requires.seen,
)

pub store-requires-else-looks-lt-YIELDS : goal.store-requires-else-looks-lt-YIELDS
store-requires-else-looks-lt-YIELDS g c = (
  search rules,
  search rules,
  sleeps g.D.Errand.needs g.D.Errand.does _ _ _ _ _ c.args.seen
      (search rules) (search rules) (search rules),
)
