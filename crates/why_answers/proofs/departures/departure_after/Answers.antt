use Rattle.std.proofs.Common.{◌+◌, arith}
use Rattle.why_answers.proofs.FromBelow.{entry-at}
use Rattle.why_answers.proofs.Departed.{departed, stayed}
use Rattle.why_answers.proofs.departures.departure_after.Goals as goal

pub returns-in-Left-clause-value : goal.returns-in-Left-clause-value
returns-in-Left-clause-value c =
    let list = c.args.list.now in
    let script = c.args.script.now in
    let shown =
    entry-at list script c.args.slot c.from-at.result c.args.node c.states-states.result.now c.index-states-at.result
    (c.states-states.ensures script (c.args.slot + 1) c.requires.run (omega arith)) c.from-at.ensures c.requires.node in
    departed list script c.args.slot c.args.node _ c.in-Left.reason c.in-Left.peer shown c.in-Left.is

pub returns-in_default-clause-value : goal.returns-in_default-clause-value
returns-in_default-clause-value c =
    let list = c.args.list.now in
    let script = c.args.script.now in
    let shown =
    entry-at list script c.args.slot c.from-at.result c.args.node c.states-states.result.now c.index-states-at.result
    (c.states-states.ensures script (c.args.slot + 1) c.requires.run (omega arith)) c.from-at.ensures c.requires.node in
    stayed list script c.args.slot c.args.node _ c.args.before shown c.in_default.not-Left c.requires.before
