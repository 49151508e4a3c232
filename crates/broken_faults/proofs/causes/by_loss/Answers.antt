use Rattle.std.proofs.Common.{◌≡◌, Some, None, ap, sym, ◌∙◌, rules}
use Rattle.std.specs.Prelude.{slice_get}
use Rattle.ttp_base.proofs.NodeTests.{nil_from_first}
use Rattle.ttp_world.specs.Hypothesis.{nodes_made, loss_in}
use Rattle.hypothesis.specs.Standing.{told_start}
use Rattle.hypothesis.specs.Walks.{all_in}
use Rattle.broken_faults.specs.Faults.{faulty_in}
use Rattle.broken_faults.proofs.Made.{one-made, has-made}
use Rattle.broken_faults.proofs.causes.by_loss.Goals as goal

pub returns-in-Some-clause-known : goal.returns-in-Some-clause-known
returns-in-Some-clause-known c =
    let list = c.args.list.now in
    let script = c.args.script.now in
    let start = told_start c.args.start in
    let slot = c.args.slot in
    let loss = loss_in list script start (faulty_in list script start slot) slot in
    let first : slice_get c.args.faults.now.made 0 ≡ Some c.in-Some.node = search rules in
    let one = one-made loss c.in-Some.node (ap (λ s. slice_get s 0) (sym c.requires.faults.made) ∙ first) in
    record { lost = sym (has-made (nodes_made loss) c.in-Some.node one); faults = c.requires.faults }

pub returns-in-Some-clause-told : goal.returns-in-Some-clause-told
returns-in-Some-clause-told c =
    let list = c.args.list.now in
    let script = c.args.script.now in
    let start = told_start c.args.start in
    let slot = c.args.slot in
    let loss = loss_in list script start (faulty_in list script start slot) slot in
    let first : slice_get c.args.faults.now.made 0 ≡ Some c.in-Some.node = search rules in
    let one = one-made loss c.in-Some.node (ap (λ s. slice_get s 0) (sym c.requires.faults.made) ∙ first) in
    sym (ap (all_in slot) (c.requires.faults.made ∙ one))

pub returns-in-None-clause-told : goal.returns-in-None-clause-told
returns-in-None-clause-told c =
    let none : slice_get c.args.faults.now.made 0 ≡ None = search rules in
    sym (ap (all_in c.args.slot) (nil_from_first c.args.faults.now.made none))
