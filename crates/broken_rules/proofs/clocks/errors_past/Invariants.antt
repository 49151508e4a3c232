use Rattle.std.proofs.Common.{◌≡◌, ℕ, ◌<◌, false}
use Rattle.ttp_world.specs.Script.{reading_error}
use Rattle.broken_rules.specs.Clocks.{is_past}
use Rattle.broken_rules.proofs.clocks.errors_past.Given as goal

-- the errors of the nodes so far are not past the bound
abbrev pub invariant-loop-node : goal.invariant-loop-node
invariant-loop-node l = (k : ℕ) → k < l.node → is_past l.list.error (reading_error l.script k l.slot) ≡ false
