use Rattle.hypothesis.proofs.Words.{◌≡◌, ◌+◌, ◌-◌, sym, ◌∙◌, rules, arith, four_rounds, breaks_arm_in, told_start}
use Rattle.hypothesis.proofs.Ranges.{none-below, first-below}
use Rattle.hypothesis.proofs.back_walk.late_arms_broken.Goals as goal

pub breaks_arm_in-requires-clause-come : goal.breaks_arm_in-requires-clause-come
breaks_arm_in-requires-clause-come c =
    let first : c.saturating_sub-from.result ≡ c.args.script.now.slots + 1 - four_rounds c.args.list.now =
    search rules in
    record { come = omega arith; near = omega (arith, first) }

pub loop-slot-init : goal.loop-slot-init
loop-slot-init c =
    let first : c.saturating_sub-from.result ≡ c.args.script.now.slots + 1 - four_rounds c.args.list.now =
    search rules in
    record {
      fine = λ t less. c.requires.before t (omega (arith, first, less));
      kept = λ t from. c.requires.kept t (omega (arith, first, from));
    }

pub returns-then-breaks_arm_in : goal.returns-then-breaks_arm_in
returns-then-breaks_arm_in c =
    sym (first-below (breaks_arm_in c.args.list.now c.args.script.now (told_start c.args.start)) c.args.script.now.slots
    c.loop-slot.slot (omega arith) c.loop-slot.invariant.fine (sym c.breaks_arm_in.ensures.value ∙ search rules))

pub returns : goal.returns
returns c =
    sym (none-below (breaks_arm_in c.args.list.now c.args.script.now (told_start c.args.start))
    c.args.script.now.slots (λ t less. c.loop-slot.invariant.fine t (omega (arith, less))))
