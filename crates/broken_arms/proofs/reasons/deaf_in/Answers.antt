use Rattle.std.proofs.Common.{◌≡◌, ◌≤◌, true, length, sym, ◌∙◌, below_more, rules, arith}
use Rattle.ttp_base.specs.NodeSet.{most_nodes}
use Rattle.ttp_world.specs.Returning.{is_deaf}
use Rattle.broken_arms.proofs.FromBelow.{first-below, none-below}
use Rattle.hypothesis.specs.Standing.{told_start}
use Rattle.broken_faults.specs.Faults.{faulty_in}
use Rattle.broken_arms.proofs.Deaf.{same-deaf}
use Rattle.broken_arms.proofs.reasons.deaf_in.Goals as goal

pub loop-node-preserved : goal.loop-node-preserved
loop-node-preserved c = below_more _ _ c.loop-node.invariant (sym c.is_deaf.ensures ∙ search rules)

pub returns-then-is_deaf : goal.returns-then-is_deaf
returns-then-is_deaf c =
    let list = c.args.list.now in
    let script = c.args.script.now in
    let faulty = faulty_in list script (told_start c.args.start) c.args.slot in
    let few : length list.slots ≤ most_nodes = search rules in
    let here : is_deaf script c.args.faulty c.args.slot c.loop-node.node
    ≡ true = sym c.is_deaf.ensures ∙ search rules in
    sym (first-below (is_deaf script faulty c.args.slot) (length list.slots) c.loop-node.node (omega arith)
    (λ k less. sym (same-deaf script c.args.faulty faulty c.args.slot k c.requires.faulty (omega (arith, less)))
    ∙ c.loop-node.invariant k less)
    (sym (same-deaf script c.args.faulty faulty c.args.slot c.loop-node.node c.requires.faulty (omega arith)) ∙ here))

pub returns : goal.returns
returns c =
    let list = c.args.list.now in
    let script = c.args.script.now in
    let faulty = faulty_in list script (told_start c.args.start) c.args.slot in
    let few : length list.slots ≤ most_nodes = search rules in
    sym (none-below (is_deaf script faulty c.args.slot) (length list.slots)
    (λ k less. sym (same-deaf script c.args.faulty faulty c.args.slot k c.requires.faulty (omega (arith, less)))
    ∙ c.loop-node.invariant k (omega (arith, less))))
