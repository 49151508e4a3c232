use Rattle.script_text.specs.Lines.{lines_of_file}
use Rattle.check_text.proofs.Pages.{ended_some}
use Rattle.check_text.proofs.put.put_script_line.Goals as goal

pub returns-clause-line : goal.returns-clause-line
returns-clause-line g c =
    c.write.ensures _ (ended_some _)
    (c.form_script_line-formed.ensures (lines_of_file c.args.file.text.now) c.line_from-at.ensures.piece)
