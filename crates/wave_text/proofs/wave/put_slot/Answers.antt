use Rattle.wave_text.proofs.Words.{puts_both}
use Rattle.wave_text.proofs.wave.put_slot.Goals as goal

pub returns : goal.returns
returns g c = puts_both c.put_time.ensures c.put_slot_changes.ensures
