use Rattle.hypothesis.proofs.Words.{◌≡◌, true, false, length, ap, sym, below_more, ◌∙◌, rules, arith, fails_if_armed}
use Rattle.hypothesis.proofs.Words.{is_armed, told_start, none-passes}
use Rattle.ttp_world.proofs.RangeFacts.{any-range as one-passes}
use Rattle.hypothesis.proofs.arms.breaks_arm_in.Goals as goal

pub loop-node-preserved : goal.loop-node-preserved
loop-node-preserved c =
    let list = c.args.list.now in
    let script = c.args.script.now in
    let start = told_start c.args.start in
    let slot = c.args.slot in
    let node = c.loop-node.node in
    let told = c.go_on.ensures.now.nodes node _ (omega arith) in
    below_more (λ k. fails_if_armed list script start k slot (is_armed script k slot) ≡ false) node
    c.loop-node.invariant (sym (ap (λ i. fails_if_armed list script start node slot i.armed) told)
    ∙ sym c.fails_if_armed.ensures ∙ search rules)

pub returns-then-fails_if_armed-clause-value : goal.returns-then-fails_if_armed-clause-value
returns-then-fails_if_armed-clause-value c =
    let list = c.args.list.now in
    let script = c.args.script.now in
    let start = told_start c.args.start in
    let slot = c.args.slot in
    let node = c.loop-node.node in
    let told = c.go_on.ensures.now.nodes node _ (omega arith) in
    let fails : fails_if_armed list script start node slot (is_armed script node slot) ≡ true =
    sym (ap (λ i. fails_if_armed list script start node slot i.armed) told) ∙ sym c.fails_if_armed.ensures
    ∙ search rules in
    sym (one-passes (λ k. fails_if_armed list script start k slot (is_armed script k slot)) 0
    (length list.slots) node (omega arith) (omega arith) fails)

pub returns-clause-value : goal.returns-clause-value
returns-clause-value c =
    let script = c.args.script.now in
    let start = told_start c.args.start in
    let slot = c.args.slot in
    sym (none-passes (λ k. fails_if_armed c.args.list.now script start k slot (is_armed script k slot)) 0
    (length c.args.list.now.slots) (λ k from less. c.loop-node.invariant k (omega arith)))

pub returns-then-not-kept-clause-value : goal.returns-then-not-kept-clause-value
returns-then-not-kept-clause-value c =
    let list = c.args.list.now in
    let script = c.args.script.now in
    let start = told_start c.args.start in
    let slot = c.args.slot in
    sym (none-passes (λ k. fails_if_armed list script start k slot (is_armed script k slot)) 0 (length list.slots)
    (λ k from less. ap (fails_if_armed list script start k slot)
    ((c.go_on.ensures.now.kinds k (omega (arith, less))).arm c.if-not-kept.true)))

pub returns-clause-kept : goal.returns-clause-kept
returns-clause-kept c = λ t from. c.go_on.ensures.later t (omega (arith, from))

pub returns-then-not-kept-clause-kept : goal.returns-then-not-kept-clause-kept
returns-then-not-kept-clause-kept c = λ t from. c.go_on.ensures.later t (omega (arith, from))

pub returns-then-fails_if_armed-clause-kept : goal.returns-then-fails_if_armed-clause-kept
returns-then-fails_if_armed-clause-kept c = λ t from. c.go_on.ensures.later t (omega (arith, from))
