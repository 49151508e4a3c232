use Rattle.why_answers.proofs.AboveInRun.{story-of}
use Rattle.why_answers.proofs.ShownEntries.{named-shown}
use Rattle.why_answers.specs.Stories.{why_told}
use Rattle.why_answers.proofs.laws.stories_hold_together.Goals as goal

pub returns-clause-above : goal.returns-clause-above
returns-clause-above c = λ k slot node. (story-of c.args.list.now c.args.script.now k slot node).above

pub returns-clause-shown : goal.returns-clause-shown
returns-clause-shown c = λ k slot node.
    named-shown (why_told c.args.list.now c.args.script.now k slot)
    (story-of c.args.list.now c.args.script.now k slot node).above

pub returns-clause-named : goal.returns-clause-named
returns-clause-named c = λ k slot node. (story-of c.args.list.now c.args.script.now k slot node).from

pub returns-clause-leads : goal.returns-clause-leads
returns-clause-leads c = λ k slot node. (story-of c.args.list.now c.args.script.now k slot node).lead
