use Rattle.std.proofs.Common.{◌≡◌, true, false, sym, ◌∙◌, rules}
use Rattle.ttp_base.specs.NodeSet.{has_node}
use Rattle.hypothesis.specs.Standing.{told_start}
use Rattle.broken_faults.specs.Faults.{faulty_in}
use Rattle.broken_arms.proofs.Since.{since-stays, since-new}
use Rattle.broken_arms.proofs.reasons.since_with.Goals as goal

pub returns-then-has : goal.returns-then-has
returns-then-has c =
    let start = told_start c.args.start in
    let has : has_node (faulty_in c.args.list.now c.args.script.now start c.args.slot) c.args.node ≡ true =
    sym (c.requires.faults.before c.args.node c.requires.node) ∙ sym c.has.ensures ∙ search rules in
    since-stays c.args.list.now c.args.script.now start c.args.node c.args.slot c.args.since c.requires.since has

pub returns-then-has_joined : goal.returns-then-has_joined
returns-then-has_joined c =
    let start = told_start c.args.start in
    let has : has_node (faulty_in c.args.list.now c.args.script.now start c.args.slot) c.args.node ≡ false =
    sym (c.requires.faults.before c.args.node c.requires.node) ∙ sym c.has.ensures ∙ search rules in
    since-new c.args.list.now c.args.script.now start c.args.node c.args.slot true has
    (sym c.has_joined.ensures ∙ search rules)

pub returns : goal.returns
returns c =
    let start = told_start c.args.start in
    let has : has_node (faulty_in c.args.list.now c.args.script.now start c.args.slot) c.args.node ≡ false =
    sym (c.requires.faults.before c.args.node c.requires.node) ∙ sym c.has.ensures ∙ search rules in
    since-new c.args.list.now c.args.script.now start c.args.node c.args.slot false has
    (sym c.has_joined.ensures ∙ search rules)
