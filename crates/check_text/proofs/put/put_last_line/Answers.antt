use Rattle.check_text.proofs.Written.{last_line-some}
use Rattle.check_text.proofs.put.put_last_line.Goals as goal

pub returns : goal.returns
returns g c =
    let formed = rw c.len.ensures at c.form_last-formed.ensures in c.write.ensures _ (last_line-some _ _ _) formed
