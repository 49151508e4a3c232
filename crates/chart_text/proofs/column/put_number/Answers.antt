use Rattle.chart_text.proofs.Words.{◌∙◌, sym, puts_one}
use Rattle.ttp_base.proofs.Puts.{puts_where, puts_unless}
use Rattle.chart_text.specs.Column.{has_number}
use Rattle.chart_text.proofs.column.put_number.Goals as goal

pub returns-then-has_number : goal.returns-then-has_number
returns-then-has_number g c =
    puts_where (has_number c.args.column.before c.args.column.slot) _ (sym c.has_number.ensures ∙ c.if-has_number.true)
    (puts_one (rw (c.chart_x-x.ensures.value, c.chart_y-y.ensures.value, c.from.ensures) at c.make_number_of.ensures)
    c.write.ensures)

pub returns-else-has_number : goal.returns-else-has_number
returns-else-has_number g c =
    puts_unless (has_number c.args.column.before c.args.column.slot) _
    (sym c.has_number.ensures ∙ c.if-has_number.false)
