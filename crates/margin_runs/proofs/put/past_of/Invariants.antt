use Rattle.std.proofs.Common.{◌≡◌}
use Rattle.margin_runs.specs.Tries.{IsBesideAfter}
use Rattle.margin_runs.proofs.put.past_of.Given as goal

-- the run has come so far
abbrev pub invariant-loop-before : goal.invariant-loop-before
invariant-loop-before l = IsBesideAfter l.past l.common.list.now l.common.script.now l.before × (l.past.node ≡ l.node)
