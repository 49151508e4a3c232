use Rattle.std.proofs.Common.{cond, ap, ◌∙◌}
use Rattle.causes.specs.LinesOf.{spoilt_in}
use Rattle.causes.specs.Listening.{join_cause_on, sources_before_join}
use Rattle.causes.specs.Sources as causes
use Rattle.causes.specs.Sources.{cause_by, no_sources, with_sources}
use Rattle.causes.specs.declared.cause.Because.TheVariants as because
use Rattle.entry_causes.proofs.Remaining.{caused, cond-elim}
use Rattle.run_rows.specs.Rows.{past_slots, run_slot}
use Rattle.entry_causes.proofs.listening.join_cause.Goals as goal

pub returns-in-None : goal.returns-in-None
returns-in-None c =
    let s = run_slot c.args.run.now c.args.slot in
    let before = past_slots c.args.run.now c.args.slot in
    c.cause_by.ensures ∙ ap (cause_by (because.TakesOver c.args.node)) c.none-out.ensures
    ∙ ap (join_cause_on c.args.node s before) c.in-None.ensures.value

pub returns-in_ok-add_join_on-in-Some : goal.returns-in_ok-add_join_on-in-Some
returns-in_ok-add_join_on-in-Some c =
    let k = c.args.node in
    let s = run_slot c.args.run.now c.args.slot in
    let before = past_slots c.args.run.now c.args.slot in
    let joined = c.in-Some.joined in
    c.cause_by-in-Some.ensures
    ∙ caused c.none-out.result c.add_join_on.new.out (because.TakesOver joined.sender)
    (with_sources (sources_before_join k before) (cond joined.is_as_sent no_sources (spoilt_in k s))) c.none-out.ensures
    c.in_ok-add_join_on-in-Some.ensures
    ∙ ap (λ (flips : causes.Sources).
    cause_by (because.TakesOver joined.sender) (with_sources (sources_before_join k before) flips))
    (cond-elim joined.is_as_sent no_sources (spoilt_in k s))
    ∙ ap (join_cause_on k s before) c.in-Some.ensures.value
