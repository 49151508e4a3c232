use Rattle.std.proofs.Common.{◌≡◌, true, ap, sym, ◌∙◌, below_more, arith, rules, option_map, Some}
use Rattle.ttp_world.specs.Returning.{breaks_back_in}
use Rattle.hypothesis.specs.Standing.{told_start}
use Rattle.broken_faults.proofs.FromBelow.{first-below, none-below}
use Rattle.broken_faults.specs.Faults.{lost_in}
use Rattle.broken_faults.proofs.losses.lost_frame.Goals as goal

pub loop-slot-preserved : goal.loop-slot-preserved
loop-slot-preserved c =
    let start = told_start c.args.start in
    record {
      walk = search rules;
      whole = below_more _ _ c.loop-slot.invariant.whole
          (sym (c.step_faults-faults.ensures.faults start c.requires.start).breaks ∙ search rules);
    }

pub returns-then-faults : goal.returns-then-faults
returns-then-faults c =
    let list = c.args.list.now in
    let script = c.args.script.now in
    let start = told_start c.args.start in
    let breaks : breaks_back_in list script start c.loop-slot.slot ≡ true =
    sym (c.step_faults-faults.ensures.faults start c.requires.start).breaks ∙ search rules in
    ap Some c.lost_in.ensures
    ∙ sym (ap (option_map (lost_in list script start)) (first-below (breaks_back_in list script start) script.slots
    c.loop-slot.slot (omega arith) c.loop-slot.invariant.whole breaks))

pub returns : goal.returns
returns c =
    let list = c.args.list.now in
    let script = c.args.script.now in
    let start = told_start c.args.start in
    sym (ap (option_map (lost_in list script start)) (none-below (breaks_back_in list script start) script.slots
    (λ t less. c.loop-slot.invariant.whole t (omega (arith, less)))))
