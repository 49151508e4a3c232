use Rattle.hypothesis.proofs.Words.{◌≡◌, true, false, not, ap, sym, ◌∙◌, rules, fails_if_armed, told_start}
use Rattle.hypothesis.proofs.arms.fails_if_armed.Goals as goal

pub returns-then-not-armed : goal.returns-then-not-armed
returns-then-not-armed c =
    let none : c.args.armed ≡ false = search rules in
    sym (ap (fails_if_armed c.args.list.now c.args.script.now (told_start c.args.start) c.args.node c.args.slot) none)

pub returns : goal.returns
returns c =
    let armed : c.args.armed ≡ true = search rules in
    ap not c.may_return.ensures
    ∙ sym (ap (fails_if_armed c.args.list.now c.args.script.now
    (told_start c.args.start) c.args.node c.args.slot) armed)
