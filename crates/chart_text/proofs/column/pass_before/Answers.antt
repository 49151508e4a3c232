use Rattle.chart_text.proofs.Words.{drop, arith, told_of}
use Rattle.chart_text.proofs.Order.{passed-few, passed-same, passed-order_from}
use Rattle.chart_text.proofs.column.pass_before.Goals as goal

pub loop-fault-preserved : goal.loop-fault-preserved
loop-fault-preserved c =
    let old = c.loop-fault.ahead in
    let x = told_of c.in-Some.fault in
    let few = passed-few old c.pass.new.self (drop 1 old) x c.in-Some.ensures.some c.pass.ensures in
    record {
      same =
          passed-same c.args.slot c.args.ahead.now old c.pass.new.self
          (drop 1 old) x c.in-Some.ensures.some c.pass.ensures
          (omega arith) c.loop-fault.invariant.same;
      order =
          passed-order_from 0 0 old c.pass.new.self (drop 1 old) x c.in-Some.ensures.some c.pass.ensures
          c.loop-fault.invariant.order (omega arith);
      few = omega (arith, few.0);
      short = omega (arith, few.1);
    }
