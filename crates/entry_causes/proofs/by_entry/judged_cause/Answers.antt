use Rattle.std.proofs.Common.{◌≡◌, subst, sym}
use Rattle.std.specs.Prelude.{IfOk}
use Rattle.causes.specs.Causes.{judged_cause}
use Rattle.run_rows.specs.Rows.{past_slots, run_slot}
use Rattle.ttp_world.specs.declared.node.Verdict.{Verdict}
use Rattle.entry_causes.proofs.by_entry.judged_cause.Goals as goal

pub returns-in-Correct : goal.returns-in-Correct
returns-in-Correct c =
    let run = c.args.run.now in
    subst (λ (v : Verdict).
    IfOk c.correct_cause.result
    (λ cause. cause ≡ judged_cause c.args.node (run_slot run c.args.slot) (past_slots run c.args.slot) v))
    (sym c.in-Correct.is) c.correct_cause.ensures

pub returns-in-Tentative : goal.returns-in-Tentative
returns-in-Tentative c =
    let run = c.args.run.now in
    subst (λ (v : Verdict).
    IfOk c.tentative_cause.result
    (λ cause. cause ≡ judged_cause c.args.node (run_slot run c.args.slot) (past_slots run c.args.slot) v))
    (sym c.in-Tentative.is) c.tentative_cause.ensures

pub returns-in-Denied : goal.returns-in-Denied
returns-in-Denied c =
    let run = c.args.run.now in
    subst (λ (v : Verdict).
    IfOk c.denied_cause.result
    (λ cause. cause ≡ judged_cause c.args.node (run_slot run c.args.slot) (past_slots run c.args.slot) v))
    (sym c.in-Denied.is) c.denied_cause.ensures

pub returns-in-Null : goal.returns-in-Null
returns-in-Null c =
    let run = c.args.run.now in
    subst (λ (v : Verdict).
    IfOk c.missed_cause.result
    (λ cause. cause ≡ judged_cause c.args.node (run_slot run c.args.slot) (past_slots run c.args.slot) v))
    (sym c.in-Null.is) c.missed_cause.ensures

pub returns-in-Invalid : goal.returns-in-Invalid
returns-in-Invalid c =
    let run = c.args.run.now in
    subst (λ (v : Verdict).
    IfOk c.missed_cause-in-Invalid.result
    (λ cause. cause ≡ judged_cause c.args.node (run_slot run c.args.slot) (past_slots run c.args.slot) v))
    (sym c.in-Invalid.is) c.missed_cause-in-Invalid.ensures

pub returns-in-Incorrect : goal.returns-in-Incorrect
returns-in-Incorrect c =
    let run = c.args.run.now in
    subst (λ (v : Verdict).
    IfOk c.missed_cause-in-Incorrect.result
    (λ cause. cause ≡ judged_cause c.args.node (run_slot run c.args.slot) (past_slots run c.args.slot) v))
    (sym c.in-Incorrect.is) c.missed_cause-in-Incorrect.ensures
