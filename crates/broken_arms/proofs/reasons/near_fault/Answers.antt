use Rattle.std.proofs.Common.{◌≡◌, ◌+◌, ◌-◌, ◌++◌, suc, min, Some, None, option_map, ap, sym, ◌∙◌, rules, arith}
use Rattle.std.specs.Prelude.{slice_get}
use Rattle.ttp_world.specs.Returning.{two_rounds, four_rounds}
use Rattle.hypothesis.specs.Standing.{told_start}
use Rattle.broken_arms.specs.declared.reasons.NotOwed.TheVariants as why
use Rattle.broken_arms.specs.Arms.{joins}
use Rattle.broken_arms.proofs.Near.{none-before, next-none, next-found, none-near}
use Rattle.broken_arms.proofs.reasons.near_fault.Goals as goal

pub loop-at-init : goal.loop-at-init
loop-at-init c =
    let from : c.saturating_sub-from.result ≡ suc c.args.slot - two_rounds c.args.list.now = search rules in
    record {
      walk = c.walk_to-walk.ensures;
      away = none-before c.args.list.now c.args.script.now (told_start c.args.start) c.args.slot
          c.saturating_sub-from.result (omega (arith, from));
    }

pub loop-at-preserved : goal.loop-at-preserved
loop-at-preserved c =
    let start = told_start c.args.start in
    let made = c.step_faults-faults.ensures.faults start c.requires.start in
    let none : slice_get (c.step_faults-faults.result.jumped ++ c.step_faults-faults.result.made) 0
    ≡ None = search rules in
    record {
      walk = c.step_faults-faults.ensures.at;
      away = next-none c.args.list.now c.args.script.now start c.args.slot
          c.loop-at.at c.step_faults-faults.result.jumped
          c.step_faults-faults.result.made c.loop-at.invariant.away made.jumped made.made none;
    }

pub returns-in-Some : goal.returns-in-Some
returns-in-Some c =
    let list = c.args.list.now in
    let script = c.args.script.now in
    let start = told_start c.args.start in
    let slot = c.args.slot in
    let made = c.step_faults-faults.ensures.faults start c.requires.start in
    let from : c.saturating_sub-from.result ≡ suc slot - two_rounds list = search rules in
    let last : c.end_of-end.result ≡ min (slot + four_rounds list) script.slots = search rules in
    let first : slice_get (c.step_faults-faults.result.jumped ++ c.step_faults-faults.result.made) 0
    ≡ Some c.in-Some.node = search rules in
    let found = next-found list script start slot c.loop-at.at c.in-Some.node c.step_faults-faults.result.jumped
    c.step_faults-faults.result.made c.loop-at.invariant.away made.jumped made.made first (omega (arith, from))
    (omega (arith, last)) (omega (arith, last)) in
    (λ i. Some (why.Joins c.in-Some.node c.loop-at.at (from i) (last i - 1)))
    ∙ sym (ap (option_map (joins list script slot)) found)

pub returns : goal.returns
returns c =
    let list = c.args.list.now in
    let script = c.args.script.now in
    let start = told_start c.args.start in
    let from : c.saturating_sub-from.result ≡ suc c.args.slot - two_rounds list = search rules in
    let end : c.end_of-end.result ≡ min (c.args.slot + four_rounds list) script.slots = search rules in
    let last : c.loop-at.at ≡ min (c.args.slot + four_rounds list) script.slots =
    omega (arith, from, end, c.requires.slot, c.requires.valid.count) in
    sym (ap (option_map (joins list script c.args.slot)) (none-near list script start c.args.slot c.loop-at.at last
    c.loop-at.invariant.away))
