use Rattle.std.proofs.Common.{arith}
use Rattle.ground_tests.proofs.FromBelow.{each-front, each-back, each-joined}
use Rattle.ground_tests.proofs.tests.parts.begin_in_parts.Goals as goal

pub returns-clause-begin : goal.returns-clause-begin
returns-clause-begin c history long stand =
    let cut = c.split_at_mut-front.ensures in
    each-joined (omega (arith, c.begin_all.ensures.count, cut.front_len))
    (c.begin_all.ensures.begin history long (each-front _ cut.value stand))
    (c.begin_all-2.ensures.begin history long
    (each-back c.split_at_mut-front.result.0.now cut.value (omega (arith, cut.front_len)) stand))

pub returns-clause-payloads : goal.returns-clause-payloads
returns-clause-payloads c chosen before =
    let cut = c.split_at_mut-front.ensures in
    each-joined (omega (arith, c.begin_all.ensures.count, cut.front_len))
    (c.begin_all.ensures.payloads chosen (each-front _ cut.value before))
    (c.begin_all-2.ensures.payloads chosen
    (each-back c.split_at_mut-front.result.0.now cut.value (omega (arith, cut.front_len)) before))
