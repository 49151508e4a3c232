use Rattle.std.proofs.Common.{ap, ◌∙◌}
use Rattle.ttp_world.proofs.Lists.{nodes-most}
use Rattle.ttp_world.specs.Hypothesis.{numbers_of}
use Rattle.ttp_world.specs.Returning.{slots_before, faulty_since}
use Rattle.broken_faults.proofs.FromBelow.{same_steady}
use Rattle.hypothesis.specs.Standing.{told_start}
use Rattle.broken_faults.specs.Faults.{cause_of, cause_if}
use Rattle.broken_faults.proofs.few.few_after.Goals as goal

pub returns : goal.returns
returns c = λ count seen.
    let list = c.args.list.now in
    let script = c.args.script.now in
    let start = told_start c.args.start in
    let left = c.left_of.ensures ∙ same_steady list script c.args.seen.now.faulty
    (numbers_of (faulty_since (slots_before list script start count))) (nodes-most list c.requires.valid) seen.faulty in
    let cause = c.cause_if.ensures ∙ ap (cause_if (cause_of list script start)) seen.newest in
    (λ i. record { slot = c.args.slot; left = left i; cause = cause i })
