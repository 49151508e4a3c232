use Rattle.chart_text.proofs.Words.{◌∙◌, sym, puts_one}
use Rattle.ttp_base.proofs.Puts.{puts_where, puts_unless}
use Rattle.chart_text.specs.Column.{is_gap}
use Rattle.chart_text.proofs.column.put_gap.Goals as goal

pub returns-then-is_gap : goal.returns-then-is_gap
returns-then-is_gap g c =
    puts_where (is_gap c.args.column.before c.args.column.slot) _ (sym c.is_gap.ensures ∙ c.if-is_gap.true)
    (puts_one (rw (c.chart_x.ensures.value, c.chart_y.ensures.value, c.from.ensures)
    at c.make_pole.ensures) c.write.ensures)

pub returns-else-is_gap : goal.returns-else-is_gap
returns-else-is_gap g c =
    puts_unless (is_gap c.args.column.before c.args.column.slot) _ (sym c.is_gap.ensures ∙ c.if-is_gap.false)
