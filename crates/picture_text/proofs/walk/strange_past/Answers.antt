use Rattle.picture_text.proofs.Sought.{past-calm}
use Rattle.picture_text.proofs.walk.strange_past.Goals as goal

pub returns-then-shown : goal.returns-then-shown
returns-then-shown c =
    past-calm c.args.trace.now.slots c.args.shown.span.last (c.requires.calm c.if-shown.true)
