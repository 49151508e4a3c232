use Rattle.std.proofs.Common.{◌≡◌, true, false, ◌||◌, ap, sym, ◌∙◌, rules}
use Rattle.ttp_base.specs.NodeSet.{has_node}
use Rattle.ttp_world.specs.Hypothesis.{jumpers_in, nodes_made, loss_in}
use Rattle.hypothesis.specs.Standing.{told_start}
use Rattle.broken_faults.specs.Faults.{faulty_in}
use Rattle.broken_arms.proofs.reasons.has_joined.Goals as goal

pub returns-then-has : goal.returns-then-has
returns-then-has c =
    let node = c.args.node in
    let list = c.args.list.now in
    let script = c.args.script.now in
    let start = told_start c.args.start in
    let faulty = faulty_in list script start c.args.slot in
    let has : has_node (jumpers_in list script faulty c.args.slot) node ≡ true =
    ap (λ s. has_node s node) (sym c.requires.faults.jumped) ∙ sym c.has.ensures ∙ search rules in
    sym (ap (λ b. b || has_node (nodes_made (loss_in list script start faulty c.args.slot)) node) has)

pub returns : goal.returns
returns c =
    let node = c.args.node in
    let list = c.args.list.now in
    let script = c.args.script.now in
    let start = told_start c.args.start in
    let faulty = faulty_in list script start c.args.slot in
    let has : has_node (jumpers_in list script faulty c.args.slot) node ≡ false =
    ap (λ s. has_node s node) (sym c.requires.faults.jumped) ∙ sym c.has.ensures ∙ search rules in
    c.has-2.ensures ∙ ap (λ s. has_node s node) c.requires.faults.made
    ∙ sym (ap (λ b. b || has_node (nodes_made (loss_in list script start faulty c.args.slot)) node) has)
