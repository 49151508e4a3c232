use Rattle.ttp_top.proofs.Terms.{◌∙◌, inl, said_as, differs_line, ttpbench}
use Rattle.ttp_top.specs.Calls.Forms.{right_ending}
use Rattle.ttp_top.proofs.FromBelow.{differs-none}
use Rattle.ttp_top.proofs.Calls.Differences.{differs-said}
use Rattle.ttp_top.proofs.verify.show_outcome.Goals as goal

pub returns-in-Ok-Differs : goal.returns-in-Ok-Differs
returns-in-Ok-Differs g c =
    let list = c.args.list.now in
    let script = c.args.script.now in
    let text = c.args.text.now in
    let line = c.in-Ok-Differs.line in
    let said = said_as ttpbench 1 _ (differs_line line) _ _ _
    (c.bytes.ensures ∙ c.differs_line.ensures) c.say-in-Ok-Differs.ensures in
    let same = rw c.in-Ok-Differs.field-0-is at c.in-Ok-Differs.ensures.same in
    inl (differs-said (right_ending c.args.wants list script text) list script text line _ _ _
    (differs-none list script text line same)
    ((c.in-Ok-Differs.ensures.differs line).0 c.in-Ok-Differs.field-0-is) said)
