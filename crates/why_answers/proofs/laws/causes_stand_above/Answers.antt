use Rattle.why_answers.proofs.AboveInRun.{causes-above}
use Rattle.why_answers.proofs.laws.causes_stand_above.Goals as goal

pub returns : goal.returns
returns c = causes-above c.args.list.now c.args.script.now
