use Rattle.chart_text.proofs.Words.{sym, List, arith, subst, FaultTold, Puts, puts_both, column_of, faults_told_in}
use Rattle.chart_text.proofs.Order.{order-earlier}
use Rattle.chart_text.proofs.column.put_column.Goals as goal

pub returns-clause-puts : goal.returns-clause-puts
returns-clause-puts g c =
    let these = faults_told_in c.args.column.slot c.pass_before.new.ahead in
    subst (λ (fs : List FaultTold). Puts c.args.sheet.now.failed (g.K.Sink.output c.args.out.now)
    c.put_end.new.sheet.failed (g.K.Sink.output c.put_end.new.out)
    (column_of c.args.extent.size c.args.column.number c.args.column.before c.args.column.slot fs))
    (sym (c.pass_before.ensures.same c.args.column.slot (omega arith)))
    (puts_both
    (puts_both (puts_both (puts_both c.put_number.ensures c.put_gap.ensures)
    (c.put_blocks.ensures these c.tally_slot-tallies.ensures)) c.put_marks.ensures.puts)
    (c.put_end.ensures these c.tally_slot-tallies.ensures.whole))

pub returns-clause-order : goal.returns-clause-order
returns-clause-order g c =
    order-earlier 0 c.args.column.slot c.put_marks.new.ahead (omega arith) c.put_marks.ensures.order
