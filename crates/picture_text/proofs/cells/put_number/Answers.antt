use Rattle.picture_text.proofs.Words.{◌%◌, ◌==◌}
use Rattle.std.proofs.lemmas.Bool.{eq-eqb, ne_eqb}
use Rattle.ttp_base.proofs.Puts.{puts_one, puts_where, puts_unless}
use Rattle.picture_text.proofs.cells.put_number.Goals as goal

pub returns-then-slot-eq0 : goal.returns-then-slot-eq0
returns-then-slot-eq0 g c =
    puts_where (c.args.slot % 5 == 0) _ (eq-eqb (c.args.slot % 5) 0 c.if-slot-eq0.true)
    (puts_one (rw (c.column_x-x.ensures.value, c.row_y-y.ensures.value, c.from.ensures) at c.make_number_of.ensures)
    c.write.ensures)

pub returns-else-slot-eq0 : goal.returns-else-slot-eq0
returns-else-slot-eq0 g c =
    puts_unless (c.args.slot % 5 == 0) _ (ne_eqb (c.args.slot % 5) 0 c.if-slot-eq0.false)
