use Rattle.ttp_base.proofs.Puts.{puts_both}
use Rattle.picture_text.proofs.legend.put_mark_entries.Goals as goal

pub returns : goal.returns
returns g c = puts_both (puts_both c.put_mark_entry.ensures c.put_mark_entry-2.ensures) c.put_mark_entry-3.ensures
