use Rattle.hypothesis.proofs.Words.{◌≡◌, ℕ, ◌<◌, ◌≤◌, true, is_within_bound, reading_error}
use Rattle.hypothesis.proofs.clocks.errors_within.Given as goal

-- the errors of the nodes so far are within it, and the same in the next slots
abbrev pub invariant-loop-node : goal.invariant-loop-node
invariant-loop-node l = record {
  within : (k : ℕ) → k < l.node → is_within_bound l.fn.bound (reading_error l.script k l.slot) ≡ true;
  stands : (k t : ℕ) → k < l.node → l.slot ≤ t → t < l.until
      → reading_error l.script k t ≡ reading_error l.script k l.slot;
}
