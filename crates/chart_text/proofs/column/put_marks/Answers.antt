use Rattle.chart_text.proofs.Words.{◌∙◌, ◌+◌, drop, arith, told_of}
use Rattle.chart_text.proofs.Words.{faults_told_in, mark_lines}
use Rattle.chart_text.proofs.Order.{passed-few, passed-same, passed-order_from, passed-here, none-left}
use Rattle.chart_text.proofs.Written.{left_first, left_none}
use Rattle.chart_text.proofs.column.put_marks.Goals as goal

pub loop-fault-preserved : goal.loop-fault-preserved
loop-fault-preserved g c =
    let slot = c.args.column.slot in
    let old = c.loop-fault.ahead in
    let new = c.pass.new.self in
    let x = told_of c.in-Some.fault in
    let is = c.in-Some.ensures.some in
    let few = passed-few old new (drop 1 old) x is c.pass.ensures in
    let here = passed-here slot old new (drop 1 old) x is c.pass.ensures (c.if-fault-column.false) in
    record {
      puts = λ fails now p.
          c.loop-fault.invariant.puts fails now
          (left_first (mark_lines c.args.extent.size c.args.column.number)
          (faults_told_in slot old) (faults_told_in slot new) x _ _ _
          _ _ _ here c.put_fault_mark.ensures.puts p);
      same =
          passed-same (slot + 1) c.args.ahead.now old new (drop 1 old) x is c.pass.ensures (omega arith)
          c.loop-fault.invariant.same;
      order =
          passed-order_from slot slot old new (drop 1 old) x is c.pass.ensures
          c.loop-fault.invariant.order (omega arith);
      few = omega (arith, few.0);
      short = omega (arith, few.1);
      room = c.put_fault_mark.ensures.room ∙ c.loop-fault.invariant.room;
    }

pub returns-then-fault-column-clause-puts : goal.returns-then-fault-column-clause-puts
returns-then-fault-column-clause-puts g c =
    let none = none-left c.args.column.slot c.loop-fault.ahead _ (told_of c.in-Some.fault) c.in-Some.ensures.some
    c.loop-fault.invariant.order c.if-fault-column.true in
    c.loop-fault.invariant.puts _ _ (left_none _ _ _ _ none)
