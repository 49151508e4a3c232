use Rattle.check_text.proofs.Sides.{has_entries}
use Rattle.check_text.proofs.script_side.has_key.Goals as goal

pub returns-in-Some : goal.returns-in-Some
returns-in-Some c = rw c.in-Some.is (has_entries c.in-Some.table c.is_empty.result c.is_empty.ensures)
