use Rattle.std.proofs.Common.{◌≡◌, ℕ, length, get_or}
use Rattle.std.specs.Prelude.{pos}
use Rattle.bus_frames.proofs.put.zeros.Given as goal

abbrev pub invariant-loop : goal.invariant-loop
invariant-loop l = record {
  count : length l.zeros ≡ l.counter;
  zero : (k : ℕ) → get_or l.zeros k (pos 0) ≡ pos 0;
}
