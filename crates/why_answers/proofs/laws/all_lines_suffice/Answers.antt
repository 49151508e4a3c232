use Rattle.why_answers.proofs.AloneYes.{says-yes}
use Rattle.why_answers.proofs.laws.all_lines_suffice.Goals as goal

pub returns : goal.returns
returns c = says-yes c.args.list.now c.args.script.now c.args.numbers.now
