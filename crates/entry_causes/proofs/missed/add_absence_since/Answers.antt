use Rattle.std.proofs.Common.{refl}
use Rattle.entry_causes.proofs.missed.add_absence_since.Goals as goal

pub returns : goal.returns
returns c = (refl, c.in_ok-add_entry.ensures)
