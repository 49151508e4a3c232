use Rattle.std.proofs.Common.{◌≡◌, subst, sym}
use Rattle.std.specs.Prelude.{IfOk}
use Rattle.causes.specs.Causes.{left_cause}
use Rattle.run_rows.specs.Rows.{past_slots, run_slot}
use Rattle.ttp_world.specs.declared.node.Reason.{Reason}
use Rattle.entry_causes.proofs.by_entry.left_cause.Goals as goal

pub returns-in-Denied : goal.returns-in-Denied
returns-in-Denied c =
    let run = c.args.run.now in
    subst (λ (why : Reason).
    IfOk c.denied_cause.result
    (λ cause. cause ≡ left_cause c.args.node (run_slot run c.args.slot) (past_slots run c.args.slot) why))
    (sym c.in-Denied.is) c.denied_cause.ensures

pub returns-in-Unacknowledged : goal.returns-in-Unacknowledged
returns-in-Unacknowledged c =
    let run = c.args.run.now in
    subst (λ (why : Reason).
    IfOk c.unacknowledged_cause.result
    (λ cause. cause ≡ left_cause c.args.node (run_slot run c.args.slot) (past_slots run c.args.slot) why))
    (sym c.in-Unacknowledged.is) c.unacknowledged_cause.ensures

pub returns-in-Clique : goal.returns-in-Clique
returns-in-Clique c =
    let run = c.args.run.now in
    subst (λ (why : Reason).
    IfOk c.clique_cause.result
    (λ cause. cause ≡ left_cause c.args.node (run_slot run c.args.slot) (past_slots run c.args.slot) why))
    (sym c.in-Clique.is) c.clique_cause.ensures
