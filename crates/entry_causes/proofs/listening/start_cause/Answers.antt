use Rattle.std.proofs.Common.{ap, ◌∙◌}
use Rattle.causes.specs.Listening.{start_cause}
use Rattle.causes.specs.Sources.{cause_by, sources_of}
use Rattle.causes.specs.declared.cause.Because.TheVariants as because
use Rattle.entry_causes.proofs.Remaining.{caused}
use Rattle.run_rows.specs.Rows.{past_slots, run_slot}
use Rattle.run_rows.specs.declared.row.NodeRow.{NodeRow}
use Rattle.entry_causes.proofs.listening.start_cause.Goals as goal

pub returns : goal.returns
returns c =
    let run = c.args.run.now in
    let k = c.args.node in
    let s = run_slot run c.args.slot in
    let start = start_cause k s (past_slots run c.args.slot) in
    let limit = c.from-limit.ensures ∙ ap (λ (r : NodeRow). r.begun.limit) c.row.ensures in
    c.cause_by.ensures
    ∙ caused c.none-out.result c.add_start.new.out (because.Silence c.from-limit.result) (sources_of start)
    c.none-out.ensures c.in_ok-add_start.ensures
    ∙ (λ i. cause_by (because.Silence (limit i)) (sources_of start))
