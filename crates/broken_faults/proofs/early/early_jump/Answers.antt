use Rattle.std.proofs.Common.{◌≡◌, None, sym, subst, rules}
use Rattle.std.specs.Prelude.{slice_get}
use Rattle.ttp_base.proofs.NodeTests.{nil_from_first}
use Rattle.hypothesis.specs.Standing.{told_start}
use Rattle.hypothesis.specs.Walks.{all_in}
use Rattle.broken_faults.specs.Seen.{LooksOver}
use Rattle.broken_faults.proofs.Over.{over-none}
use Rattle.broken_faults.proofs.early.early_jump.Goals as goal

pub returns-in-None-clause-early : goal.returns-in-None-clause-early
returns-in-None-clause-early c =
    let list = c.args.list.now in
    let script = c.args.script.now in
    let start = told_start c.args.start in
    let none : slice_get c.args.faults.now.jumped 0 ≡ None = search rules in
    subst (λ js. LooksOver list script start c.args.since.now (all_in c.args.slot js) None c.args.since.now)
    (sym (nil_from_first c.args.faults.now.jumped none)) (over-none list script start c.args.since.now)
