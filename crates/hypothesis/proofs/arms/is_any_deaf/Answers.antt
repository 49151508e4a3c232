use Rattle.hypothesis.proofs.Words.{◌≡◌, true, length, sym, below_more, ◌∙◌, rules, arith, is_deaf, nodes-most}
use Rattle.hypothesis.proofs.Words.{none-passes}
use Rattle.hypothesis.proofs.ArmLines.{deaf-same}
use Rattle.ttp_world.proofs.RangeFacts.{any-range as one-passes}
use Rattle.hypothesis.proofs.arms.is_any_deaf.Goals as goal

pub loop-node-preserved : goal.loop-node-preserved
loop-node-preserved c = below_more _ _ c.loop-node.invariant (search rules)

pub returns-then-is_deaf : goal.returns-then-is_deaf
returns-then-is_deaf c = λ faulties same.
    let script = c.args.script.now in
    let node = c.loop-node.node in
    let few = nodes-most c.args.list.now c.requires.valid in
    let deaf : is_deaf script c.args.faulty c.args.slot node ≡ true = search rules in
    sym (one-passes (is_deaf script faulties c.args.slot) 0
    (length c.args.list.now.slots) node (omega arith) (omega arith)
    (sym (deaf-same script c.args.faulty faulties c.args.slot node (omega (arith, few)) same) ∙ deaf))

pub returns : goal.returns
returns c = λ faulties same.
    let few = nodes-most c.args.list.now c.requires.valid in
    sym (none-passes (is_deaf c.args.script.now faulties c.args.slot) 0 (length c.args.list.now.slots) (λ k from less.
    sym (deaf-same c.args.script.now c.args.faulty faulties c.args.slot k (omega (arith, few)) same)
    ∙ c.loop-node.invariant k (omega arith)))
