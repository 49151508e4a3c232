use Rattle.std.proofs.Common.{◌≡◌, ℕ, ◌<◌, false}
use Rattle.ttp_world.specs.Returning.{is_deaf}
use Rattle.broken_arms.proofs.reasons.deaf_in.Given as goal

abbrev pub invariant-loop-node : goal.invariant-loop-node
invariant-loop-node l = (k : ℕ) → k < l.node → is_deaf l.script l.faulty l.slot k ≡ false
