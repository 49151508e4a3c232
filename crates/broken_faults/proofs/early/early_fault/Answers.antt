use Rattle.std.proofs.Common.{◌≡◌, ◌+◌, suc, None, sym, subst, refl, rules, arith}
use Rattle.hypothesis.specs.Standing.{told_start}
use Rattle.broken_faults.specs.declared.early.Since.TheVariants as since
use Rattle.broken_faults.specs.Faults.{faults_before, new_faults_in}
use Rattle.broken_faults.specs.Seen.{LooksOver}
use Rattle.broken_faults.proofs.Over.{over-none, over-both, run-found, run-none, nothing-found}
use Rattle.broken_faults.proofs.early.early_fault.Goals as goal

pub loop-slot-init : goal.loop-slot-init
loop-slot-init c = record {
  walk = search rules;
  bound = search rules;
  over = over-none c.args.list.now c.args.script.now (told_start c.args.start) (since.Start c.args.start.slot);
}

pub loop-slot-preserved : goal.loop-slot-preserved
loop-slot-preserved c =
    let list = c.args.list.now in
    let script = c.args.script.now in
    let start = told_start c.args.start in
    let slot = c.loop-slot.slot in
    let next : suc slot ≡ slot + 1 = omega arith in
    record {
      walk = search rules;
      bound = c.early_in-early.ensures.bound;
      over = subst (λ n. LooksOver list script start (since.Start start.slot) (faults_before list script start n) None
          c.early_in-early.new.since) next
          (over-both list script start (since.Start start.slot) c.loop-slot.since c.early_in-early.new.since
          (faults_before list script start slot) (new_faults_in list script start slot) None None refl
          c.loop-slot.invariant.over (subst (λ found. LooksOver list script start c.loop-slot.since
          (new_faults_in list script start slot) found c.early_in-early.new.since)
          (nothing-found c.early_in-early.result (search rules)) c.early_in-early.ensures.early));
    }

pub returns-then-is_some : goal.returns-then-is_some
returns-then-is_some c =
    let list = c.args.list.now in
    let script = c.args.script.now in
    let start = told_start c.args.start in
    let slot = c.loop-slot.slot in
    let next : suc slot ≡ slot + 1 = omega arith in
    sym (run-found list script start (since.Start start.slot) c.early_in-early.new.since slot script.slots
    c.early_in-early.result (omega arith) (search rules)
    (subst (λ n. LooksOver list script start (since.Start start.slot) (faults_before list script start n)
    c.early_in-early.result c.early_in-early.new.since) next
    (over-both list script start (since.Start start.slot) c.loop-slot.since c.early_in-early.new.since
    (faults_before list script start slot) (new_faults_in list script start slot) None c.early_in-early.result refl
    c.loop-slot.invariant.over c.early_in-early.ensures.early)))

pub returns : goal.returns
returns c =
    let list = c.args.list.now in
    let script = c.args.script.now in
    let start = told_start c.args.start in
    let all : c.loop-slot.slot ≡ script.slots = omega arith in
    sym (run-none list script start (since.Start start.slot) c.loop-slot.since script.slots
    (subst (λ n. LooksOver list script start (since.Start start.slot) (faults_before list script start n) None
    c.loop-slot.since) all c.loop-slot.invariant.over))
