use Rattle.std.proofs.Common.{None, subst}
use Rattle.hypothesis.specs.Standing.{told_start}
use Rattle.broken_faults.specs.Seen.{LooksOver}
use Rattle.broken_faults.proofs.Over.{over-none}
use Rattle.broken_faults.proofs.early.early_loss.Goals as goal

pub returns-in-Some-clause-early : goal.returns-in-Some-clause-early
returns-in-Some-clause-early c =
    let list = c.args.list.now in
    let script = c.args.script.now in
    let start = told_start c.args.start in
    subst (λ faults. LooksOver list script start c.args.since.now faults c.early_with.result c.early_with.new.since)
    c.in-Some.ensures.told c.early_with.ensures.early

pub returns-in-None-clause-early : goal.returns-in-None-clause-early
returns-in-None-clause-early c =
    let list = c.args.list.now in
    let script = c.args.script.now in
    let start = told_start c.args.start in
    subst (λ faults. LooksOver list script start c.args.since.now faults None c.args.since.now) c.in-None.ensures.told
    (over-none list script start c.args.since.now)
