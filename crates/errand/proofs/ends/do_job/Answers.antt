use Rattle.std.proofs.Common.{rules, Some, arith, ◌∙◌}
use Rattle.errand.proofs.Moves.{gives_back}
use Rattle.errand.proofs.ends.do_job.Goals as goal

pub exchange-requires : goal.exchange-requires
exchange-requires g c = (search rules, (Some c.requires.taken.0, search rules))

pub store-requires : goal.store-requires
store-requires g c = (
  search rules,
  search rules,
  gives_back g.D.Errand.needs g.D.Errand.does _ _ _ c.requires.taken.0
      c.work-done.result (search rules) (search rules),
)

pub wake-requires : goal.wake-requires
wake-requires g c = (omega arith, c.requires.seated.1)

pub returns : goal.returns
returns g c = (c.store.ensures.0 ∙ (c.exchange-2.ensures.0 ∙ c.exchange.ensures.0), c.store.ensures.2)
