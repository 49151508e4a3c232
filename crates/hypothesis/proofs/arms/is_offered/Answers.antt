use Rattle.hypothesis.proofs.Words.{◌≡◌, ◌+◌, ◌-◌, ◌≤◌, min, true, false, ◌||◌, ap, sym, ◌∙◌, below_more, rules, arith}
use Rattle.hypothesis.proofs.Words.{nat_lt, list_any, le-ltb, offers_place, nodes-most, told_start, or-true}
use Rattle.hypothesis.proofs.Words.{none-passes}
use Rattle.ttp_world.specs.Returning.{two_rounds, run_slots}
use Rattle.ttp_world.proofs.RangeFacts.{any-range as one-passes}
use Rattle.hypothesis.proofs.arms.is_offered.Goals as goal

pub slot_at-requires-clause-come : goal.slot_at-requires-clause-come
slot_at-requires-clause-come c = omega arith

pub slot_at-requires-clause-kept : goal.slot_at-requires-clause-kept
slot_at-requires-clause-kept c = let few = nodes-most c.args.list.now c.requires.valid in omega arith

pub loop-at-init : goal.loop-at-init
loop-at-init c = λ t less from. absurd (omega arith)

pub loop-at-preserved : goal.loop-at-preserved
loop-at-preserved c =
    let start = told_start c.args.start in
    let kept = c.slot_at.ensures c.args.list.now c.args.script.now start c.requires.newest in
    below_more (λ t. c.args.slot ≤ t → offers_place c.args.list.now c.args.script.now start c.args.node t ≡ false)
    c.loop-at.at c.loop-at.invariant (λ from. sym (c.offers_place.ensures kept.stayed) ∙ search rules)

pub returns-then-offers_place : goal.returns-then-offers_place
returns-then-offers_place c =
    let list = c.args.list.now in
    let script = c.args.script.now in
    let start = told_start c.args.start in
    let slot = c.args.slot in
    let at = c.loop-at.at in
    let kept = c.slot_at.ensures list script start c.requires.newest in
    let offers : offers_place list script start c.args.node at ≡ true =
    sym (c.offers_place.ensures kept.stayed) ∙ search rules in
    sym (ap (λ b. nat_lt script.slots (slot + two_rounds list) || b)
    (one-passes (offers_place list script start c.args.node) slot (min (slot + two_rounds list) script.slots - slot) at
    (omega arith) (omega arith) offers) ∙ or-true (nat_lt script.slots (slot + two_rounds list)))

pub returns : goal.returns
returns c =
    let list = c.args.list.now in
    let script = c.args.script.now in
    let slot = c.args.slot in
    let start = told_start c.args.start in
    let whole : nat_lt script.slots (slot + two_rounds list) ≡ false =
    le-ltb script.slots (slot + two_rounds list) (omega arith) in
    sym (ap (λ b. b || list_any (offers_place list script start c.args.node)
    (run_slots script slot (two_rounds list))) whole
    ∙ none-passes (offers_place list script start c.args.node) slot (min (slot + two_rounds list) script.slots - slot)
    (λ t from to. c.loop-at.invariant t (omega arith) from))
