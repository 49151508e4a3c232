use Rattle.script_text.specs.Lines.{lines_of_file}
use Rattle.check_text.specs.Lines.{script_line}
use Rattle.check_text.proofs.Pages.{puts_item}
use Rattle.check_text.proofs.put.put_script_errors.Goals as goal

pub loop-error-preserved : goal.loop-error-preserved
loop-error-preserved g c = (
  c.put_script_line-at.ensures.at,
  puts_item (script_line c.args.file.name.now (lines_of_file c.args.file.text.now)) c.args.errors.now
      c.loop-error.error-index _ _ _ _ _ _ _ c.loop-error.invariant.1 c.loop-error-test.true
      c.put_script_line-at.ensures.line,
)
