use Rattle.std.proofs.Common.{rules, Some}
use Rattle.errand.proofs.Moves.{brings_job}
use Rattle.errand.proofs.ends.Waiting.take_back.Goals as goal

pub compare_exchange-requires : goal.compare_exchange-requires
compare_exchange-requires g c = (
  search rules,
  search rules,
  brings_job g.D.Errand.needs g.D.Errand.does _ _ _
      c.args.self.seat.me.0.job (search rules) (search rules),
)

pub exchange-requires : goal.exchange-requires
exchange-requires g c = let back = c.compare_exchange.ensures.2.0 (search rules) in
    (search rules, (Some back.0, search rules))
