use Rattle.std.proofs.Common.{rules}
use Rattle.errand.proofs.Moves.{fetches_job}
use Rattle.errand.proofs.ends.wait_done.Goals as goal

pub load-requires : goal.load-requires
load-requires g c = (
  search rules,
  search rules,
  fetches_job g.D.Errand.needs g.D.Errand.does _ _ _
      c.args.seat.now.me.0.job c.requires.begun.1 (search rules),
)
