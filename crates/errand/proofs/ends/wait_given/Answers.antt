use Rattle.std.proofs.Common.{◌∙◌, refl, rules}
use Rattle.errand.proofs.Moves.{looks_up}
use Rattle.errand.proofs.ends.wait_given.Goals as goal

pub loop-init : goal.loop-init
loop-init g c = (tt, tt, refl, refl)

pub load-requires : goal.load-requires
load-requires g c = (
  search rules,
  search rules,
  looks_up g.D.Errand.needs g.D.Errand.does _ _
      _ (c.loop.invariant.3 ∙ c.requires.free),
)
