use Rattle.ttp_base.proofs.Puts.{puts_both}
use Rattle.picture_text.proofs.legend.put_classes.Goals as goal

pub returns : goal.returns
returns g c =
    puts_both (puts_both (puts_both (puts_both (puts_both (puts_both (puts_both (puts_both (puts_both
    c.put_class.ensures c.put_class-2.ensures) c.put_round_entry.ensures) c.put_class-3.ensures) c.put_class-4.ensures)
    c.put_class-5.ensures) c.put_class-6.ensures) c.put_class-7.ensures) c.put_class-8.ensures) c.put_class-9.ensures
