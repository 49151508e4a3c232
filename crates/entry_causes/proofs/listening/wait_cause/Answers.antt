use Rattle.std.proofs.Common.{◌+◌, ◌∙◌}
use Rattle.causes.specs.Listening.{wait_sources}
use Rattle.causes.specs.Sources.{cause_by}
use Rattle.causes.specs.declared.cause.Because.TheVariants as because
use Rattle.entry_causes.proofs.Remaining.{caused}
use Rattle.entry_causes.proofs.FromBelow.{past_slots_in-next}
use Rattle.run_rows.specs.Rows.{past_slots}
use Rattle.entry_causes.proofs.listening.wait_cause.Goals as goal

pub returns : goal.returns
returns c =
    let run = c.args.run.now in
    let k = c.args.node in
    let next = past_slots_in-next run.list run.script c.args.slot in
    c.cause_by.ensures
    ∙ caused c.none-out.result c.add_wait.new.out (because.NothingToJoin c.listening_from.result)
    (wait_sources k (past_slots run (c.args.slot + 1))) c.none-out.ensures c.in_ok-add_wait.ensures
    ∙ (λ i. cause_by (because.NothingToJoin (c.listening_from.ensures.value i)) (wait_sources k (next i)))
