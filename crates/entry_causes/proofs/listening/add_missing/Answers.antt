use Rattle.std.proofs.Common.{Bool, true, false, ◌-◌, List, [], ◌∷◌, filter, not, take, ap, sym, ◌∙◌, arith}
use Rattle.causes.specs.Listening.{hears_nothing, missing_by, missing_node}
use Rattle.causes.specs.RunSlots.{RunSlot, back_to, is_gone_entry, is_left}
use Rattle.causes.specs.Sources.{no_sources, only_entries}
use Rattle.causes.specs.declared.cause.Spot.{Spot}
use Rattle.entry_causes.proofs.Adding.{adds-none, on-ok}
use Rattle.entry_causes.proofs.Listens.{missing-down, missing-none}
use Rattle.entry_causes.proofs.Remaining.{adds-same}
use Rattle.run_rows.specs.Rows.{past_slots, run_slot}
use Rattle.run_rows.specs.declared.row.NodeRow.{NodeRow}
use Rattle.entry_causes.proofs.listening.add_missing.Goals as goal

pub returns-then-not-is_gone : goal.returns-then-not-is_gone
returns-then-not-is_gone c =
    let run = c.args.run.now in
    let q = c.args.node in
    let slot = c.args.slot in
    let audible =
    filter (λ (u : RunSlot). not (hears_nothing c.args.listener u)) (take (slot - c.args.from) (past_slots run slot)) in
    let gone =
    ap (λ (r : NodeRow). is_gone_entry r.entry) (sym c.row.ensures) ∙ sym c.is_gone.ensures ∙ c.if-not-is_gone.true in
    adds-same c.args.out.now c.args.out.now no_sources
    (only_entries (missing_node q (run_slot run slot) (past_slots run slot) audible))
    (ap (λ (b : Bool).
    only_entries
    (elim b as (λ c. List Spot) [ true ↦ missing_by q audible (back_to is_left q (past_slots run slot)) | false ↦ [] ]))
    (sym gone))
    (adds-none c.args.out.now)

pub returns-then-behind-eq0 : goal.returns-then-behind-eq0
returns-then-behind-eq0 c =
    let run = c.args.run.now in
    let q = c.args.node in
    let slot = c.args.slot in
    let audible =
    filter (λ (u : RunSlot). not (hears_nothing c.args.listener u)) (take (slot - c.args.from) (past_slots run slot)) in
    let gone =
    ap (λ (r : NodeRow). is_gone_entry r.entry) (sym c.row.ensures) ∙ sym c.is_gone.ensures ∙ c.if-not-is_gone.false in
    adds-same c.args.out.now c.args.out.now no_sources
    (only_entries (missing_node q (run_slot run slot) (past_slots run slot) audible))
    (sym
    (ap (λ (b : Bool).
    only_entries
    (elim b as (λ c. List Spot) [ true ↦ missing_by q audible (back_to is_left q (past_slots run slot)) | false ↦ [] ]))
    gone
    ∙ ap only_entries
    (ap (missing_by q audible) c.back_to-behind.ensures.is
    ∙ missing-none run.list run.script c.back_to-behind.result q audible c.if-behind-eq0.true)))
    (adds-none c.args.out.now)

pub returns-then-would_be_heard : goal.returns-then-would_be_heard
returns-then-would_be_heard c =
    let run = c.args.run.now in
    let q = c.args.node in
    let slot = c.args.slot in
    let behind = c.back_to-behind.result in
    let audible =
    filter (λ (u : RunSlot). not (hears_nothing c.args.listener u)) (take (slot - c.args.from) (past_slots run slot)) in
    let gone =
    ap (λ (r : NodeRow). is_gone_entry r.entry) (sym c.row.ensures) ∙ sym c.is_gone.ensures ∙ c.if-not-is_gone.false in
    on-ok c.add_entry.result
    (adds-same c.args.out.now c.add_entry.new.self (only_entries (record { slot = behind - 1; node = q } ∷ []))
    (only_entries (missing_node q (run_slot run slot) (past_slots run slot) audible))
    (sym
    (ap (λ (b : Bool).
    only_entries
    (elim b as (λ c. List Spot) [ true ↦ missing_by q audible (back_to is_left q (past_slots run slot)) | false ↦ [] ]))
    gone
    ∙ ap only_entries
    (ap (missing_by q audible) c.back_to-behind.ensures.is
    ∙ missing-down run.list run.script behind q audible true (omega (arith, c.if-behind-eq0.false))
    (sym c.would_be_heard.ensures ∙ c.if-would_be_heard.true)))))
    c.add_entry.ensures

pub returns : goal.returns
returns c =
    let run = c.args.run.now in
    let q = c.args.node in
    let slot = c.args.slot in
    let behind = c.back_to-behind.result in
    let audible =
    filter (λ (u : RunSlot). not (hears_nothing c.args.listener u)) (take (slot - c.args.from) (past_slots run slot)) in
    let gone =
    ap (λ (r : NodeRow). is_gone_entry r.entry) (sym c.row.ensures) ∙ sym c.is_gone.ensures ∙ c.if-not-is_gone.false in
    adds-same c.args.out.now c.args.out.now no_sources
    (only_entries (missing_node q (run_slot run slot) (past_slots run slot) audible))
    (sym
    (ap (λ (b : Bool).
    only_entries
    (elim b as (λ c. List Spot) [ true ↦ missing_by q audible (back_to is_left q (past_slots run slot)) | false ↦ [] ]))
    gone
    ∙ ap only_entries
    (ap (missing_by q audible) c.back_to-behind.ensures.is
    ∙ missing-down run.list run.script behind q audible false (omega (arith, c.if-behind-eq0.false))
    (sym c.would_be_heard.ensures ∙ c.if-would_be_heard.false))))
    (adds-none c.args.out.now)
