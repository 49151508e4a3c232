use Rattle.controller.proofs.Words.{sym, arith}
use Rattle.controller.proofs.Plants.{is-step}
use Rattle.controller.proofs.plant.step.Goals as goal

pub returns-clause-steps : goal.returns-clause-steps
returns-clause-steps c history stands =
    let begun = c.begin_all.ensures.begin history (sym stands.slot) stands.seats in
    let carries = c.plan_all.ensures.carries history (sym stands.slot) begun in
    is-step stands
    (omega (arith, c.take_all.ensures.count, c.plan_all.ensures.count, c.begin_all.ensures.count, c.requires.nodes))
    (rw (c.plan_all.ensures.slot) at c.take_all.ensures.seats)
    (c.take_all.ensures.end history c.args.chosen.now (c.plan_all.ensures.plan history begun) carries) carries
