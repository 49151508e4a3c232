use Rattle.hypothesis.proofs.Words.{◌≡◌, ℕ, ◌<◌, ◌≤◌, true, false, not, drifts_hold, errors_hold_in}
use Rattle.hypothesis.proofs.clocks.clocks_broken.Given as goal

-- the drifts are within their bound, and so are the errors of the slots so far, and of those that are known
abbrev pub invariant-loop-slot : goal.invariant-loop-slot
invariant-loop-slot l = record {
  drifts : drifts_hold l.list l.script ≡ true;
  fine : (slot : ℕ) → slot < l.slot → not (errors_hold_in l.list l.script slot) ≡ false;
  known : (slot : ℕ) → l.slot ≤ slot → slot < l.until → errors_hold_in l.list l.script slot ≡ true;
}
