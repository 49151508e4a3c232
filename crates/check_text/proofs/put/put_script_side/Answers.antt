use Rattle.check_text.proofs.Pages.{ended_some}
use Rattle.check_text.proofs.put.put_script_side.Goals as goal

pub returns-in-TooLarge : goal.returns-in-TooLarge
returns-in-TooLarge g c = rw c.in-TooLarge.is (c.write.ensures _ (ended_some _) c.form_too_large-formed.ensures)
