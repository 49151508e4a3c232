use Rattle.std.proofs.Common.{sym, subst, ◌∙◌, rules}
use Rattle.hypothesis.specs.Standing.{told_start}
use Rattle.broken_faults.specs.BrokenFaults.{faults_by, NameFaultSlots}
use Rattle.broken_faults.specs.Faults.{early_fault, too_few_left}
use Rattle.broken_faults.proofs.Named.{each-by, by-lost, by-none}
use Rattle.broken_faults.proofs.faults.broken_faults.Goals as goal

pub returns-then-is_some-clause-slots : goal.returns-then-is_some-clause-slots
returns-then-is_some-clause-slots c =
    let list = c.args.list.now in
    let script = c.args.script.now in
    let start = told_start c.args.start in
    subst (NameFaultSlots list script start) (by-lost c.lost_frame-lost.result (early_fault list script start)
    (too_few_left list script start) (search rules))
    (each-by list script start c.lost_frame-lost.result (sym c.lost_frame-lost.ensures))

pub returns-clause-slots : goal.returns-clause-slots
returns-clause-slots c =
    let list = c.args.list.now in
    let script = c.args.script.now in
    let start = told_start c.args.start in
    subst (NameFaultSlots list script start)
    ((λ i. faults_by c.lost_frame-lost.result (sym c.early_fault.ensures i) (sym c.too_few_left.ensures i))
    ∙ by-none c.lost_frame-lost.result c.early_fault.result c.too_few_left.result (search rules))
    (each-by list script start c.lost_frame-lost.result (sym c.lost_frame-lost.ensures))
