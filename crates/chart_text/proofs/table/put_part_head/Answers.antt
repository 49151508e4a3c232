use Rattle.chart_text.proofs.Words.{◌+◌, ◌*◌, get_or, one_more, look_cell, looks}
use Rattle.chart_text.specs.declared.look.Look.TheVariants as look
use Rattle.chart_text.proofs.table.put_part_head.Goals as goal

pub loop-number-preserved : goal.loop-number-preserved
loop-number-preserved g c =
    one_more _ _ _ _ _ _
    (λ i. look_cell (get_or looks i look.Same) (c.args.x + 133 + 30 * i) (c.args.top + 330)) c.loop-number.number
    c.make_look_cell.new.line c.loop-number.invariant c.write.ensures
    (rw (c.look_at.ensures, c.from.ensures) at c.make_look_cell.ensures)
