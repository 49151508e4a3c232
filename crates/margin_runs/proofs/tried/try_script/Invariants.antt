use Rattle.std.proofs.Common.{◌≡◌}
use Rattle.margin_runs.specs.Tries.{IsBesideAfter}
use Rattle.margin_runs.proofs.tried.try_script.Given as goal

-- the run has come so far
abbrev pub invariant-loop-slot : goal.invariant-loop-slot
invariant-loop-slot l = IsBesideAfter l.run l.list l.more l.slot × (l.run.node ≡ l.initial.run.node)
