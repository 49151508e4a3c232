use Rattle.std.proofs.Common.{ℕ, ◌||◌, List, true, false, ap, sym, ◌∙◌}
use Rattle.std.proofs.lemmas.List.{append-nil}
use Rattle.std.specs.List.{flat_map}
use Rattle.causes.specs.Missed.{missed_cause}
use Rattle.causes.specs.OwnSlots.{lacked_by}
use Rattle.causes.specs.RunSlots.{RunSlot, RunSlots, is_incorrect, is_judged_so}
use Rattle.causes.specs.declared.cause.Cause.{Cause}
use Rattle.entry_causes.proofs.OwnFacts.{judged-is}
use Rattle.run_rows.specs.Rows.{past_slots, run_slot}
use Rattle.run_rows.specs.declared.row.NodeRow.{NodeRow}
use Rattle.ttp_base.specs.NodeSet.{has_node}
use Rattle.ttp_world.specs.declared.node.Verdict.TheVariants as verdict
use Rattle.entry_causes.proofs.own.with_lacked.Goals as goal

pub returns-then-is_judged_so : goal.returns-then-is_judged_so
returns-then-is_judged_so c = λ j few.
    let run = c.args.run.now in
    let k = c.args.node in
    let s = run_slot run c.args.slot in
    let f = λ (s : RunSlot). lacked_by k (missed_cause k s (past_slots run c.args.slot) verdict.Incorrect).because in
    let judged =
    ap (λ (r : NodeRow). is_judged_so is_incorrect r.entry) (sym c.row.ensures) ∙ sym c.is_judged_so.ensures
    ∙ c.if-is_judged_so.true in
    c.lacked_by.ensures j few
    ∙ ap (λ (cause : Cause). has_node (lacked_by k cause.because) j || has_node c.args.set j) c.in_ok-cause.ensures
    ∙ ap (λ (xs : List ℕ). has_node xs j || has_node c.args.set j) (sym (append-nil (f s)))
    ∙ ap (λ (slots : RunSlots). has_node (flat_map f slots) j || has_node c.args.set j)
    (sym (judged-is is_incorrect k s true judged))

pub returns : goal.returns
returns c = λ j few.
    let run = c.args.run.now in
    let k = c.args.node in
    let s = run_slot run c.args.slot in
    let f = λ (s : RunSlot). lacked_by k (missed_cause k s (past_slots run c.args.slot) verdict.Incorrect).because in
    let judged =
    ap (λ (r : NodeRow). is_judged_so is_incorrect r.entry) (sym c.row.ensures) ∙ sym c.is_judged_so.ensures
    ∙ c.if-is_judged_so.false in
    ap (λ (slots : RunSlots). has_node (flat_map f slots) j || has_node c.args.set j)
    (sym (judged-is is_incorrect k s false judged))
