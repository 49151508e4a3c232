use Rattle.std.proofs.Common.{◌≡◌, ◌-◌, ℕ, Bool, true, false, cond, ◌&&◌, ap, sym, ◌∙◌, arith, refl}
use Rattle.std.specs.Prelude.{None, Some}
use Rattle.causes.specs.Clocks.{stint_join}
use Rattle.causes.specs.Listening.{join_cause}
use Rattle.causes.specs.Sources.{has_sources, sources_of}
use Rattle.causes.specs.declared.cause.Cause.{Cause}
use Rattle.entry_causes.proofs.Unread.{if_at, stint_join-by, stint_join-none}
use Rattle.run_rows.specs.Rows.{past_slots, run_slot}
use Rattle.entry_causes.proofs.clocks.stint_join.Goals as goal

pub returns-then-behind-eq0 : goal.returns-then-behind-eq0
returns-then-behind-eq0 c =
    let run = c.args.run.now in
    sym (ap (stint_join c.args.node) c.back_to-behind.ensures.is
    ∙ stint_join-none run.list run.script c.args.node c.back_to-behind.result c.if-behind-eq0.true)

at_if : (b : Bool) (slot : ℕ) → cond b (Some slot) None ≡ if_at b slot
at_if true slot = refl
at_if false slot = refl

pub returns-then-joins : goal.returns-then-joins
returns-then-joins c =
    let run = c.args.run.now in
    let behind = c.back_to-behind.result in
    let caused = has_sources
    (sources_of (join_cause c.args.node (run_slot run (behind - 1)) (past_slots run (behind - 1)))) in
    c.caused_at.ensures
    ∙ at_if (has_sources (sources_of c.in_ok-cause.cause)) (behind - 1)
    ∙ ap (λ (cause : Cause). if_at (has_sources (sources_of cause)) (behind - 1)) c.in_ok-cause.ensures
    ∙ sym (ap (stint_join c.args.node) c.back_to-behind.ensures.is
    ∙ stint_join-by run.list run.script c.args.node behind c.joins.result caused (omega (arith, c.if-behind-eq0.false))
    c.joins.ensures refl
    ∙ ap (λ (b : Bool). if_at (b && caused) (behind - 1)) c.if-joins.true)

pub returns : goal.returns
returns c =
    let run = c.args.run.now in
    let behind = c.back_to-behind.result in
    let caused = has_sources
    (sources_of (join_cause c.args.node (run_slot run (behind - 1)) (past_slots run (behind - 1)))) in
    sym (ap (stint_join c.args.node) c.back_to-behind.ensures.is
    ∙ stint_join-by run.list run.script c.args.node behind c.joins.result caused (omega (arith, c.if-behind-eq0.false))
    c.joins.ensures refl
    ∙ ap (λ (b : Bool). if_at (b && caused) (behind - 1)) c.if-joins.false)
