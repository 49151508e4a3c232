use Rattle.std.proofs.Common.{sym, arith}
use Rattle.ground_tests.proofs.FromBelow.{is-step}
use Rattle.ground_tests.proofs.tests.parts.step_in_parts.Goals as goal

pub returns-clause-steps : goal.returns-clause-steps
returns-clause-steps c history stands =
    let begun = c.begin_in_parts.ensures.begin history (sym stands.slot) stands.seats in
    let carries = c.plan_all.ensures.carries history (sym stands.slot) begun in
    is-step stands
    (omega (
      arith,
      c.take_in_parts.ensures.count,
      c.plan_all.ensures.count,
      c.begin_in_parts.ensures.count,
      c.requires.nodes,
    ))
    (rw (c.plan_all.ensures.slot) at c.take_in_parts.ensures.seats)
    (c.take_in_parts.ensures.end history c.args.chosen.now (c.plan_all.ensures.plan history begun) carries) carries
