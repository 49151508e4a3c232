use Rattle.std.proofs.Common.{◌≡◌, ◌+◌, ◌-◌, ◌≤◌, min, true, false, ◌||◌, inl, inr, ap, sym, ◌∙◌, rules, arith}
use Rattle.std.proofs.lemmas.Bool.{cases_lt, le-ltb}
use Rattle.ttp_world.proofs.RangeFacts.{any-range, none-passes}
use Rattle.ttp_world.specs.Returning.{offers_place, two_rounds}
use Rattle.hypothesis.specs.Standing.{told_start}
use Rattle.broken_arms.proofs.reasons.is_offered.Goals as goal

pub loop-at-init : goal.loop-at-init
loop-at-init c = record { walk = c.walk_to-walk.ensures; none = λ t from less. absurd (omega (arith, from, less)) }

pub loop-at-preserved : goal.loop-at-preserved
loop-at-preserved c =
    let list = c.args.list.now in
    let script = c.args.script.now in
    let start = told_start c.args.start in
    let made = c.step_faults-faults.ensures.faults start c.requires.start in
    let here : offers_place list script start c.args.node c.loop-at.at ≡ false =
    sym (c.offers_place.ensures made.before) ∙ search rules in
    record {
      walk = c.step_faults-faults.ensures.at;
      none = λ t from less. elim (cases_lt t c.loop-at.at) [
        | inl before ↦ c.loop-at.invariant.none t from before
        | inr last ↦
            let same : c.loop-at.at ≡ t = omega (arith, less, last) in
            ap (offers_place list script start c.args.node) (sym same) ∙ here
      ];
    }

pub returns-then-offers_place : goal.returns-then-offers_place
returns-then-offers_place c =
    let list = c.args.list.now in
    let script = c.args.script.now in
    let start = told_start c.args.start in
    let slot = c.args.slot in
    let made = c.step_faults-faults.ensures.faults start c.requires.start in
    let here : offers_place list script start c.args.node c.loop-at.at ≡ true =
    sym (c.offers_place.ensures made.before) ∙ search rules in
    let gap : c.two_rounds.result ≡ two_rounds list = search rules in
    let within : slot + two_rounds list ≤ script.slots = omega (arith, gap) in
    sym ((λ i. le-ltb script.slots (slot + two_rounds list) within i
    || any-range (offers_place list script start c.args.node) slot (min (slot + two_rounds list) script.slots - slot)
    c.loop-at.at (omega arith) (omega (arith, gap)) here i))

pub returns : goal.returns
returns c =
    let list = c.args.list.now in
    let script = c.args.script.now in
    let start = told_start c.args.start in
    let slot = c.args.slot in
    let gap : c.two_rounds.result ≡ two_rounds list = search rules in
    let within : slot + two_rounds list ≤ script.slots = omega (arith, gap) in
    sym ((λ i. le-ltb script.slots (slot + two_rounds list) within i
    || none-passes (offers_place list script start c.args.node) slot (min (slot + two_rounds list) script.slots - slot)
    (λ t from less. c.loop-at.invariant.none t from (omega (arith, gap, from, less))) i))
