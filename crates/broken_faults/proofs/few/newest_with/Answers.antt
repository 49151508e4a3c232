use Rattle.std.proofs.Common.{ap, ◌∙◌}
use Rattle.ttp_world.specs.Hypothesis.{jumpers_in, nodes_made, loss_in}
use Rattle.hypothesis.specs.Standing.{told_start}
use Rattle.hypothesis.specs.Walks.{all_in}
use Rattle.broken_faults.specs.Faults.{faulty_in, newest_fault}
use Rattle.broken_faults.specs.Seen.{told_fault}
use Rattle.broken_faults.proofs.Newest.{newest-loss, newest-jumps}
use Rattle.broken_faults.proofs.few.newest_with.Goals as goal

pub returns-in-Some-clause-told : goal.returns-in-Some-clause-told
returns-in-Some-clause-told c =
    let list = c.args.list.now in
    let script = c.args.script.now in
    let start = told_start c.args.start in
    let slot = c.args.slot in
    let faulty = faulty_in list script start slot in
    newest-loss (told_fault c.args.before) slot (jumpers_in list script faulty slot)
    (nodes_made (loss_in list script start faulty slot)) _
    (c.in-Some.ensures.told ∙ ap (all_in slot) c.requires.faults.made)

pub returns-in-None-clause-told : goal.returns-in-None-clause-told
returns-in-None-clause-told c =
    let list = c.args.list.now in
    let script = c.args.script.now in
    let start = told_start c.args.start in
    let slot = c.args.slot in
    let faulty = faulty_in list script start slot in
    c.newest_jump.ensures.told
    ∙ ap (λ js. newest_fault (told_fault c.args.before) (all_in slot js)) c.requires.faults.jumped
    ∙ newest-jumps (told_fault c.args.before) slot (jumpers_in list script faulty slot)
    (nodes_made (loss_in list script start faulty slot))
    (c.in-None.ensures.told ∙ ap (all_in slot) c.requires.faults.made)
