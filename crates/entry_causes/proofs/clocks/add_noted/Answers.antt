use Rattle.std.proofs.Common.{◌≡◌, ◌-◌, ◌++◌, [], ◌∷◌, not, List, length, length-append, ap, subst, ◌∙◌, arith}
use Rattle.std.specs.Prelude.{Option, ◌==◌, ℕ}
use Rattle.causes.specs.Clocks.{spots_joined, unread_entries}
use Rattle.causes.specs.Sources.{only_entries}
use Rattle.causes.specs.declared.cause.ClockNote.{ClockNote}
use Rattle.causes.specs.declared.cause.Spot.{Spot}
use Rattle.entry_causes.proofs.Adding.{adds-both, on-ok}
use Rattle.run_looks.specs.Added.{AddsSources}
use Rattle.run_rows.specs.Rows.{past_slots, run_slot}
use Rattle.entry_causes.proofs.clocks.add_noted.Goals as goal

grown : (old unread new : List Spot) → new ≡ old ++ unread
    → not (length new - length old == 0) ≡ not (length unread == 0)
grown old unread new is =
    let same : length new - length old ≡ length unread = omega (arith, ap length is, length-append old unread) in
    ap (λ (n : ℕ). not (n == 0)) same

pub returns-clause-entries : goal.returns-clause-entries
returns-clause-entries c =
    let run = c.args.run.now in
    let k = c.args.node in
    on-ok c.push.result (λ pushed.
    subst (λ (joined : Option ℕ).
    AddsSources c.args.out.now c.add_joined.new.out
    (only_entries (unread_entries k (run_slot run c.args.slot) (past_slots run c.args.slot) ++ spots_joined k joined)))
    c.in_ok-joined.ensures
    (adds-both c.args.out.now c.add_unread.new.out c.add_joined.new.out _ _ c.in_ok-add_unread.ensures
    c.in_ok-add_joined.ensures)) c.push.ensures.ok

pub returns-clause-notes : goal.returns-clause-notes
returns-clause-notes c =
    let run = c.args.run.now in
    let k = c.args.node in
    let unread = unread_entries k (run_slot run c.args.slot) (past_slots run c.args.slot) in
    let is_uncorrected =
    c.has_grown-is_uncorrected.ensures ∙ (λ i. not (c.len.ensures i - c.len-before.ensures i == 0))
    ∙ grown c.args.out.now.entries unread c.add_unread.new.out.entries c.in_ok-add_unread.ensures.entries in
    on-ok c.push.result (λ pushed.
    pushed
    ∙ ap (λ (note : ClockNote). c.args.notes.now ++ note ∷ [])
    (λ i. record { node = k; is_uncorrected = is_uncorrected i; joined = c.in_ok-joined.ensures i })) c.push.ensures.ok
