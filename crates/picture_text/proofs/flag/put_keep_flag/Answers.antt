use Rattle.picture_text.proofs.Words.{ap, sym, ◌∙◌}
use Rattle.picture_text.specs.Picture.{is_shown}
use Rattle.picture_text.specs.Tables.{keep_slot}
use Rattle.ttp_base.proofs.Puts.{puts_two, puts_where, puts_unless}
use Rattle.picture_text.proofs.flag.put_keep_flag.Goals as goal

pub returns-then-is_shown : goal.returns-then-is_shown
returns-then-is_shown g c =
    let same = c.keep_slot-slot.ensures in
    puts_where (is_shown c.args.layout.span (keep_slot c.args.keep)) _
    (ap (is_shown c.args.layout.span) (sym same) ∙ sym c.is_shown.ensures ∙ c.if-is_shown.true)
    (puts_two (rw same at c.make_pole.ensures) (rw same at c.make_keep_flag.ensures)
    c.write.ensures c.write-then-is_shown.ensures)

pub returns-else-is_shown : goal.returns-else-is_shown
returns-else-is_shown g c =
    puts_unless (is_shown c.args.layout.span (keep_slot c.args.keep)) _
    (ap (is_shown c.args.layout.span) (sym c.keep_slot-slot.ensures) ∙ sym c.is_shown.ensures ∙ c.if-is_shown.false)
