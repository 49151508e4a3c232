use Rattle.std.proofs.Common.{◌<◌, refl, ◌∙◌, subst, arith}
use Rattle.nbw_ring.specs.Numbers.{limit}
use Rattle.nbw_ring.proofs.Attempts.{still_more, has_stepped}
use Rattle.nbw_ring.proofs.reader.Reader.read.Goals as goal

pub returns-in-Got-clause-steps : goal.returns-in-Got-clause-steps
returns-in-Got-clause-steps g c =
    let new = c.try_read.new.self in
    has_stepped c.args.self.now c.loop.self new c.loop.invariant c.try_read.ensures.ring c.try_read.ensures.tries
    c.try_read.ensures.steps c.try_read.ensures.forward
    (subst (λ n. new.seen < limit new.ring.shape n) c.in-Got.ensures.number c.in-Got.ensures.got.intact)

pub loop-preserved : goal.loop-preserved
loop-preserved g c =
    let before = c.loop.invariant in
    let nothing = c.in_default.ensures.overrun in
    let seen = before.seen in
    let later = c.try_read.ensures.later in
    let forward = c.try_read.ensures.forward in
    still_more c.args.self.now c.loop.self c.try_read.new.self before c.try_read.ensures.ring c.try_read.ensures.tries
    c.try_read.ensures.steps (omega arith) (nothing.got ∙ before.got) (nothing.floor ∙ before.floor)
    (nothing.spare ∙ before.spare) _ refl
