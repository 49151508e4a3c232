use Rattle.std.proofs.Common.{◌≡◌, ℕ, ◌-◌, ◌<◌, ◌≤◌, ◌||◌, map, take}
use Rattle.causes.specs.RunSlots.{is_rejected, judged_so, place_of_node}
use Rattle.run_rows.specs.Rows.{past_slots}
use Rattle.ttp_base.specs.NodeSet.{has_node}
use Rattle.entry_causes.proofs.own.with_rejected_peers.Given as goal

-- those of the slots before here
abbrev pub invariant-loop-at : goal.invariant-loop-at
invariant-loop-at l = record {
  told : (j : ℕ) → j < 24 → has_node l.told j
      ≡ (has_node l.initial.told j
      || has_node
      (map (λ s. (place_of_node l.node s).slot)
      (judged_so is_rejected l.node (take (l.at - l.from) (past_slots l.run l.at)))) j);
  within : l.at - l.from ≤ l.slot - l.from;
}
