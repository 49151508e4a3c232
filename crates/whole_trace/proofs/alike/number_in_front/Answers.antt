use Rattle.std.proofs.Common.{◌<◌, arith}
use Rattle.whole_trace.proofs.Pieces.{two_digits}
use Rattle.whole_trace.proofs.alike.number_in_front.Goals as goal

pub returns-else-high-eq0 : goal.returns-else-high-eq0
returns-else-high-eq0 c =
    let h = c.in_ok-high.high in
    let l = c.in-Some.low in
    let some : 0 < h = omega (arith, c.if-high-eq0.false) in (
      two_digits h l c.args.bytes.now c.in_ok-high.rest.now c.in-Some.behind.now
          c.in_ok-high.ensures.0 c.in-Some.ensures.0 some
          c.in_ok-high.ensures.1 c.in-Some.ensures.1,
      omega (arith, c.in_ok-high.ensures.1, c.in-Some.ensures.1),
    )
