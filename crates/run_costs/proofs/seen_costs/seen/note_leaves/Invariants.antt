use Rattle.std.proofs.Common.{◌≡◌, ℕ, ◌<◌, ◌≤◌, length, get_or, None}
use Rattle.campaign.specs.Cost.{leave_after}
use Rattle.run_costs.specs.States.{state_at}
use Rattle.run_costs.proofs.seen_costs.seen.note_leaves.Given as goal

-- those of the nodes so far, and the others as they were
abbrev pub invariant-loop-k : goal.invariant-loop-k
invariant-loop-k l =
    ((j : ℕ) → j < l.k
    → get_or l.left j None ≡ leave_after j l.slot (state_at l.states j).entry (get_or l.initial.left j None))
    × ((j : ℕ) → l.k ≤ j → get_or l.left j None ≡ get_or l.initial.left j None)
    × (length l.left ≡ length l.initial.left)
