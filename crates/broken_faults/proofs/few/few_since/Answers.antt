use Rattle.std.proofs.Common.{◌≡◌, ◌+◌, ◌-◌, suc, true, false, not, ap, sym}
use Rattle.std.proofs.Common.{◌∙◌, inl, inr, rules, arith, option_map, Some}
use Rattle.std.proofs.lemmas.Bool.{cases_lt}
use Rattle.ttp_world.proofs.RangeFacts.{none-range}
use Rattle.ttp_world.specs.Returning.{has_four_before, lacks_four_after}
use Rattle.broken_faults.proofs.FromBelow.{first-range}
use Rattle.hypothesis.specs.Standing.{told_start}
use Rattle.broken_faults.specs.Faults.{few_in}
use Rattle.broken_faults.proofs.Enough.{has-four, in-slot}
use Rattle.broken_faults.proofs.few.few_since.Goals as goal

pub loop-slot-preserved : goal.loop-slot-preserved
loop-slot-preserved c =
    let list = c.args.list.now in
    let script = c.args.script.now in
    let start = told_start c.args.start in
    let slot = c.loop-slot.slot in
    let four : has_four_before list script start (slot + 1) ≡ true =
    has-four list script start (slot + 1) c.see_slot.new.seen c.requires.valid c.see_slot.ensures
    ∙ sym c.has_four_steady.ensures ∙ search rules in
    record {
      seen = c.see_slot.ensures;
      enough = λ t from less. elim (cases_lt t slot) [
        | inl before ↦ c.loop-slot.invariant.enough t from before
        | inr last ↦
            let next : suc t ≡ slot + 1 = omega (arith, less, last) in
            ap (λ n. not (has_four_before list script start n)) next ∙ ap not four
      ];
    }

pub returns-then-not-has_four_steady : goal.returns-then-not-has_four_steady
returns-then-not-has_four_steady c =
    let list = c.args.list.now in
    let script = c.args.script.now in
    let start = told_start c.args.start in
    let slot = c.loop-slot.slot in
    let next : suc slot ≡ slot + 1 = omega arith in
    let four : has_four_before list script start (slot + 1) ≡ false =
    has-four list script start (slot + 1) c.see_slot.new.seen c.requires.valid c.see_slot.ensures
    ∙ sym c.has_four_steady.ensures ∙ search rules in
    let lacks : lacks_four_after list script start slot ≡ true =
    ap (λ n. not (has_four_before list script start n)) next ∙ ap not four in
    ap Some (c.few_after.ensures (slot + 1) c.see_slot.ensures
    ∙ in-slot list script start slot (slot + 1) c.requires.enough next)
    ∙ sym (ap (option_map (few_in list script start)) (first-range (lacks_four_after list script start) start.slot
    (script.slots - start.slot) slot (omega arith) (omega arith) c.loop-slot.invariant.enough lacks))

pub returns : goal.returns
returns c =
    let list = c.args.list.now in
    let script = c.args.script.now in
    let start = told_start c.args.start in
    sym (ap (option_map (few_in list script start)) (none-range (lacks_four_after list script start) start.slot
    (script.slots - start.slot) (λ t from less. c.loop-slot.invariant.enough t from (omega (arith, from, less)))))
