use Rattle.ttp_top.proofs.Terms.{◌∙◌, inl, said_as, ttpbench, faced_line, broken_line}
use Rattle.ttp_top.proofs.Calls.Precision.{faced_line-is, broken_line-is, precision-said}
use Rattle.ttp_top.proofs.faced.show_precision.Goals as goal

pub returns-in-Ok : goal.returns-in-Ok
returns-in-Ok g c =
    let list = c.args.list.now in
    let script = c.args.script.now in
    let node = c.args.node in
    let line = faced_line list node c.in-Yes.start c.in-Ok.seen in
    let said = said_as ttpbench 0 _ line _ _ _ (c.bytes.ensures ∙ c.faced_line.ensures) c.say.ensures in
    inl (precision-said list script node line _ _ _
    (λ numbers legal.
    faced_line-is list script node c.in-Yes.start c.in-Ok.seen numbers c.in-Yes.ensures
    (c.in-Ok.ensures numbers legal))
    said)

pub returns-in-No : goal.returns-in-No
returns-in-No g c =
    let list = c.args.list.now in
    let script = c.args.script.now in
    let node = c.args.node in
    let line = broken_line c.in-No.rule c.in-No.slot in
    let said = said_as ttpbench 0 _ line _ _ _ (c.bytes-in-No.ensures ∙ c.broken_line.ensures) c.say-in-No.ensures in
    inl (precision-said list script node line _ _ _
    (λ numbers legal. broken_line-is list script node c.in-No.rule c.in-No.slot numbers c.in-No.ensures) said)
