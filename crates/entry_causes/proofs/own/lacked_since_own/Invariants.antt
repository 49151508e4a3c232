use Rattle.std.proofs.Common.{◌≡◌, ℕ, ◌-◌, ◌<◌, take}
use Rattle.std.specs.List.{flat_map}
use Rattle.causes.specs.OwnSlots.{lacked_in}
use Rattle.causes.specs.RunSlots.{is_incorrect, judged_so, slots_to}
use Rattle.run_rows.specs.Rows.{past_slots}
use Rattle.ttp_base.specs.NodeSet.{has_node}
use Rattle.entry_causes.proofs.own.lacked_since_own.Given as goal

-- those of the slots before here
abbrev pub invariant-loop-at : goal.invariant-loop-at
invariant-loop-at l =
    (j : ℕ) → j < 24 → has_node l.lacked j
    ≡ has_node
    (flat_map (λ s. lacked_in l.node (slots_to (past_slots l.run l.before) s.begun.number))
    (judged_so is_incorrect l.node (take (l.at - l.from) (past_slots l.run l.at)))) j
