use Rattle.std.proofs.Common.{◌≡◌, ℕ, Bool, cond, List, [], ◌∷◌, ap, map, subst, sym}
use Rattle.std.proofs.lemmas.Bool.{le-ltb, lt-ltb}
use Rattle.std.specs.Prelude.{IfOk, OnOk}
use Rattle.causes.specs.Clocks.{NotedClock, noted_clock}
use Rattle.causes.specs.RunSlots.{RunSlot, RunSlots}
use Rattle.causes.specs.Sources.{only_entries}
use Rattle.entry_causes.specs.Notes.{entries_noted, notes_noted}
use Rattle.run_looks.specs.Added.{AddsSources}
use Rattle.run_rows.specs.Rows.{past_slots, run_slot}
use Rattle.entry_causes.proofs.clocks.add_both_noted.Goals as goal

abbrev noted_if : ℕ → ℕ → RunSlot → RunSlots → Bool → List NotedClock
noted_if p k s before lower = map (λ x. noted_clock x s before) (cond lower (p ∷ k ∷ []) (k ∷ p ∷ []))

pub returns-then-sender-node-clause-entries : goal.returns-then-sender-node-clause-entries
returns-then-sender-node-clause-entries c =
    let run = c.args.run.now in
    subst (λ (noted : List NotedClock).
    OnOk c.add_two_noted.result
    (AddsSources c.args.out.now c.add_two_noted.new.out (only_entries (entries_noted noted))))
    (ap (noted_if c.args.sender c.args.node (run_slot run c.args.slot) (past_slots run c.args.slot))
    (sym (lt-ltb c.args.sender c.args.node c.if-sender-node.true)))
    c.add_two_noted.ensures.entries

pub returns-then-sender-node-clause-notes : goal.returns-then-sender-node-clause-notes
returns-then-sender-node-clause-notes c =
    let run = c.args.run.now in
    subst (λ (noted : List NotedClock). IfOk c.add_two_noted.result (λ notes. notes ≡ notes_noted noted))
    (ap (noted_if c.args.sender c.args.node (run_slot run c.args.slot) (past_slots run c.args.slot))
    (sym (lt-ltb c.args.sender c.args.node c.if-sender-node.true)))
    c.add_two_noted.ensures.notes

pub returns-else-sender-node-clause-entries : goal.returns-else-sender-node-clause-entries
returns-else-sender-node-clause-entries c =
    let run = c.args.run.now in
    subst (λ (noted : List NotedClock).
    OnOk c.add_two_noted-else-sender-node.result
    (AddsSources c.args.out.now c.add_two_noted-else-sender-node.new.out (only_entries (entries_noted noted))))
    (ap (noted_if c.args.sender c.args.node (run_slot run c.args.slot) (past_slots run c.args.slot))
    (sym (le-ltb c.args.sender c.args.node c.if-sender-node.false)))
    c.add_two_noted-else-sender-node.ensures.entries

pub returns-else-sender-node-clause-notes : goal.returns-else-sender-node-clause-notes
returns-else-sender-node-clause-notes c =
    let run = c.args.run.now in
    subst (λ (noted : List NotedClock).
    IfOk c.add_two_noted-else-sender-node.result (λ notes. notes ≡ notes_noted noted))
    (ap (noted_if c.args.sender c.args.node (run_slot run c.args.slot) (past_slots run c.args.slot))
    (sym (le-ltb c.args.sender c.args.node c.if-sender-node.false)))
    c.add_two_noted-else-sender-node.ensures.notes
