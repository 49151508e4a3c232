use Rattle.picture_text.proofs.Words.{ap, sym, ◌∙◌}
use Rattle.shown_slot.specs.Nodes.{starts_round}
use Rattle.ttp_base.proofs.Puts.{puts_one, puts_where, puts_unless}
use Rattle.picture_text.proofs.cells.put_round.Goals as goal

pub returns-then-starts_round : goal.returns-then-starts_round
returns-then-starts_round g c =
    puts_where (starts_round c.args.shown.now.nodes) _
    (ap starts_round (sym c.nodes.ensures.value) ∙ sym c.starts_round.ensures ∙ c.if-starts_round.true)
    (puts_one (rw (c.column_x-x.ensures.value, c.row_y-y.ensures.value, c.from.ensures) at c.make_round.ensures)
    c.write.ensures)

pub returns-else-starts_round : goal.returns-else-starts_round
returns-else-starts_round g c =
    puts_unless (starts_round c.args.shown.now.nodes) _
    (ap starts_round (sym c.nodes.ensures.value) ∙ sym c.starts_round.ensures ∙ c.if-starts_round.false)
