use Rattle.check_text.proofs.Pages.{ended_some}
use Rattle.check_text.proofs.put.put_list_line.Goals as goal

pub returns : goal.returns
returns g c = c.write.ensures _ (ended_some _) c.form_nth-formed.ensures
