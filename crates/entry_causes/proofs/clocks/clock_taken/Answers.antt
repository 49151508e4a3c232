use Rattle.std.proofs.Common.{ℕ, Bool, true, false, ap, length, sym, ◌∙◌}
use Rattle.causes.specs.Clocks.{sender_or}
use Rattle.causes.specs.Said.{frame_joined}
use Rattle.run_rows.specs.Rows.{run_slot}
use Rattle.entry_causes.proofs.clocks.clock_taken.Goals as goal

-- by whether it joins
abbrev if_joins : Bool → ℕ → ℕ → ℕ
if_joins joins from k = elim joins [ true ↦ from | false ↦ k ]

pub returns-then-joins-clause-value : goal.returns-then-joins-clause-value
returns-then-joins-clause-value c =
    let k = c.args.node in
    let s = run_slot c.args.run.now c.args.slot in
    c.sender_or.ensures.value ∙ ap (sender_or k) c.frame_joined.ensures.value
    ∙ ap (λ (b : Bool). if_joins b (sender_or k (frame_joined k s)) k) (sym (sym c.joins.ensures ∙ c.if-joins.true))

pub returns-then-joins-clause-node : goal.returns-then-joins-clause-node
returns-then-joins-clause-node c =
    c.sender_or.ensures.node (length c.args.run.now.list.slots) c.requires.node c.frame_joined.ensures.sender

pub returns-else-joins-clause-value : goal.returns-else-joins-clause-value
returns-else-joins-clause-value c =
    let k = c.args.node in
    let s = run_slot c.args.run.now c.args.slot in
    ap (λ (b : Bool). if_joins b (sender_or k (frame_joined k s)) k) (sym (sym c.joins.ensures ∙ c.if-joins.false))
