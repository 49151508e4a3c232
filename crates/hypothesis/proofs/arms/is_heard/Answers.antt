use Rattle.hypothesis.proofs.Words.{◌≡◌, ◌+◌, ◌-◌, ◌≤◌, min, true, false, not, ap, sym, ◌∙◌, below_more, rules, arith}
use Rattle.hypothesis.proofs.Words.{four_rounds, is_missed_in, nodes-most, told_start, none-passes}
use Rattle.ttp_world.proofs.RangeFacts.{any-range as one-passes}
use Rattle.hypothesis.proofs.arms.is_heard.Goals as goal

pub slot_at-requires-clause-come : goal.slot_at-requires-clause-come
slot_at-requires-clause-come c = omega arith

pub slot_at-requires-clause-kept : goal.slot_at-requires-clause-kept
slot_at-requires-clause-kept c = let few = nodes-most c.args.list.now c.requires.valid in omega arith

pub loop-at-init : goal.loop-at-init
loop-at-init c = λ t less from. absurd (omega arith)

pub loop-at-preserved : goal.loop-at-preserved
loop-at-preserved c =
    let start = told_start c.args.start in
    let kept = c.slot_at.ensures c.args.list.now c.args.script.now start c.requires.newest in
    below_more (λ t. c.args.slot ≤ t → is_missed_in c.args.list.now c.args.script.now start c.args.node t ≡ false)
    c.loop-at.at c.loop-at.invariant (λ from. sym (c.is_missed_in.ensures kept.stayed) ∙ search rules)

pub returns-then-is_missed_in : goal.returns-then-is_missed_in
returns-then-is_missed_in c =
    let list = c.args.list.now in
    let script = c.args.script.now in
    let start = told_start c.args.start in
    let at = c.loop-at.at in
    let kept = c.slot_at.ensures list script start c.requires.newest in
    let missed : is_missed_in list script start c.args.node at ≡ true =
    sym (c.is_missed_in.ensures kept.stayed) ∙ search rules in
    sym (ap not (one-passes (is_missed_in list script start c.args.node) c.args.slot
    (min (c.args.slot + four_rounds list) script.slots - c.args.slot) at (omega arith) (omega arith) missed))

pub returns : goal.returns
returns c =
    let list = c.args.list.now in
    let script = c.args.script.now in
    let slot = c.args.slot in
    sym (ap not (none-passes (is_missed_in list script (told_start c.args.start) c.args.node) slot
    (min (slot + four_rounds list) script.slots - slot) (λ t from to. c.loop-at.invariant t (omega arith) from)))
