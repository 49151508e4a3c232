use Rattle.std.proofs.Common.{suc, ◌∙◌}
use Rattle.causes.specs.Story.{lines_told, story}
use Rattle.why_answers.specs.Stories.{first_slots, why_told}
use Rattle.why_answers.proofs.ListedLines.{order-has, order-rise, told-has}
use Rattle.why_answers.proofs.laws.lines_are_listed.Goals as goal

pub returns-clause-listed : goal.returns-clause-listed
returns-clause-listed c = λ k slot n.
    let told = why_told c.args.list.now c.args.script.now k slot in
    order-has c.args.numbers.now n
    (lines_told (story c.args.script.now (first_slots c.args.list.now c.args.script.now (suc slot)) k))
    ∙ told-has c.args.numbers.now n told

pub returns-clause-rising : goal.returns-clause-rising
returns-clause-rising c = order-rise c.args.numbers.now

pub returns-clause-shown : goal.returns-clause-shown
returns-clause-shown c = order-has c.args.numbers.now
