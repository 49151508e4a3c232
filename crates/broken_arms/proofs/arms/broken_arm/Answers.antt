use Rattle.std.proofs.Common.{option_map, ap, sym, ◌∙◌}
use Rattle.ttp_world.specs.Returning.{breaks_arm_in}
use Rattle.hypothesis.specs.Standing.{told_start}
use Rattle.broken_arms.specs.declared.arms.BrokenArm.{BrokenArm}
use Rattle.broken_arms.specs.Arms.{broken_at}
use Rattle.broken_arms.proofs.ArmSlots.{named, found-below}
use Rattle.broken_arms.proofs.arms.broken_arm.Goals as goal

pub broken_from-requires-clause-slot : goal.broken_from-requires-clause-slot
broken_from-requires-clause-slot c =
    let script = c.args.script.now in
    let start = told_start c.args.start in
    found-below (breaks_arm_in c.args.list.now script start) script.slots c.in-Some.slot (sym c.in-Some.ensures)

pub returns-in-Some : goal.returns-in-Some
returns-in-Some c =
    let list = c.args.list.now in
    let script = c.args.script.now in
    let start = told_start c.args.start in
    let exact = c.broken_from.ensures ∙ ap (broken_at list script start) c.in-Some.ensures in
    record { exact = exact; slot = ap (option_map (λ (arm : BrokenArm). arm.slot)) exact ∙ named list script start }

pub returns-in-None : goal.returns-in-None
returns-in-None c =
    let list = c.args.list.now in
    let script = c.args.script.now in
    let start = told_start c.args.start in
    record {
      exact = ap (broken_at list script start) c.in-None.ensures;
      slot = c.in-None.ensures;
    }
