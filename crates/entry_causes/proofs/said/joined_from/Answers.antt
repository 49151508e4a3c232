use Rattle.std.proofs.Common.{Bool, true, false, ap, length, sym, ◌∙◌}
use Rattle.std.specs.Prelude.{None, Option}
use Rattle.causes.specs.Said.{frame_joined, sender_as_sent}
use Rattle.run_rows.specs.Rows.{run_slot}
use Rattle.std.specs.Prelude.{ℕ}
use Rattle.entry_causes.proofs.said.joined_from.Goals as goal

-- by whether it joins
abbrev if_joins : Bool → Option ℕ → Option ℕ
if_joins joins from = elim joins [ true ↦ from | false ↦ None ]

pub returns-then-joins-clause-value : goal.returns-then-joins-clause-value
returns-then-joins-clause-value c =
    let from = sender_as_sent (frame_joined c.args.node (run_slot c.args.run.now c.args.slot)) in
    c.sender_as_sent.ensures.value ∙ ap sender_as_sent c.frame_joined.ensures.value
    ∙ ap (λ (b : Bool). if_joins b from) (sym (sym c.joins.ensures ∙ c.if-joins.true))

pub returns-then-joins-clause-node : goal.returns-then-joins-clause-node
returns-then-joins-clause-node c =
    c.sender_as_sent.ensures.node (length c.args.run.now.list.slots) c.frame_joined.ensures.sender

pub returns-else-joins-clause-value : goal.returns-else-joins-clause-value
returns-else-joins-clause-value c =
    let from = sender_as_sent (frame_joined c.args.node (run_slot c.args.run.now c.args.slot)) in
    ap (λ (b : Bool). if_joins b from) (sym (sym c.joins.ensures ∙ c.if-joins.false))
