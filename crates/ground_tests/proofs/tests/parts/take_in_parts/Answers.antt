use Rattle.std.proofs.Common.{arith}
use Rattle.ground_tests.proofs.FromBelow.{each-front, each-back, each-joined}
use Rattle.ground_tests.proofs.tests.parts.take_in_parts.Goals as goal

pub returns-clause-end : goal.returns-clause-end
returns-clause-end c history chosen planned carries =
    let cut = c.split_at_mut-front.ensures in
    let front = c.take_all-2.ensures.end history chosen (each-front _ cut.value planned) carries in
    let back = c.take_all.ensures.end history chosen
    (each-back c.split_at_mut-front.result.0.now cut.value (omega (arith, cut.front_len)) planned) carries in
    record {
      stand = each-joined (omega (arith, c.take_all-2.ensures.count, cut.front_len)) front.stand back.stand;
      left = each-joined (omega (arith, c.take_all-2.ensures.count, cut.front_len)) front.left back.left;
    }
