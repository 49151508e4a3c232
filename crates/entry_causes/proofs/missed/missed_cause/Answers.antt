use Rattle.std.proofs.Common.{ap, ◌∙◌}
use Rattle.causes.specs.Missed.{missed_cause}
use Rattle.causes.specs.Sources.{cause_by, sources_of}
use Rattle.causes.specs.declared.cause.Because.{Because}
use Rattle.entry_causes.proofs.Remaining.{caused}
use Rattle.run_rows.specs.Rows.{past_slots, run_slot}
use Rattle.entry_causes.proofs.missed.missed_cause.Goals as goal

pub returns : goal.returns
returns c =
    let run = c.args.run.now in
    let whole = missed_cause c.args.node (run_slot run c.args.slot) (past_slots run c.args.slot) c.args.verdict in
    c.cause_by.ensures
    ∙ caused c.none-out.result c.add_missed.new.out c.in_ok-because.because (sources_of whole) c.none-out.ensures
    c.in_ok-because.ensures.1
    ∙ ap (λ (why : Because). cause_by why (sources_of whole)) c.in_ok-because.ensures.0
