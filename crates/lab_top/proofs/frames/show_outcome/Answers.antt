use Rattle.std.proofs.Common.{◌∙◌, inl}
use Rattle.lab_top.proofs.FromBelow.{said_as, differs-none}
use Rattle.trace_check.specs.Difference.{differs_line}
use Rattle.lab_top.specs.Texts.{ttplab}
use Rattle.lab_top.proofs.Differences.{differs-said}
use Rattle.lab_top.proofs.frames.show_outcome.Goals as goal

pub returns-in-Ok-Differs : goal.returns-in-Ok-Differs
returns-in-Ok-Differs g c =
    let list = c.args.list.now in
    let script = c.args.script.now in
    let text = c.args.text.now in
    let line = c.in-Ok-Differs.line in
    let said = said_as ttplab 1 _ (differs_line line) _ _ _ (c.bytes.ensures ∙ c.differs_line.ensures) c.say.ensures in
    let same = rw c.in-Ok-Differs.field-0-is at c.in-Ok-Differs.ensures.same in
    inl (differs-said list script text line _ _ _ (differs-none list script text line same)
    ((c.in-Ok-Differs.ensures.differs line).0 c.in-Ok-Differs.field-0-is) said)
