use Rattle.two_faced.proofs.Words.{◌≡◌, ℕ, ◌<◌, true, false, not, drifts_hold, told_start_if, errors_allowed_in}
use Rattle.two_faced.proofs.clocks.faced_clocks_broken.Given as goal

-- the drifts are within their bound, and so are the errors of the slots so far
abbrev pub invariant-loop-slot : goal.invariant-loop-slot
invariant-loop-slot l =
    (drifts_hold l.list l.script ≡ true) × ((slot : ℕ) → slot < l.slot
    → not (errors_allowed_in l.list l.script l.node (told_start_if l.start) slot) ≡ false)
