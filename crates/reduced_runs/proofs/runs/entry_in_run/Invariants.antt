use Rattle.run_costs.specs.Standing.{IsRunAfter}
use Rattle.reduced_runs.proofs.runs.entry_in_run.Given as goal

-- the run so far
abbrev pub invariant-loop-at : goal.invariant-loop-at
invariant-loop-at l = IsRunAfter l.run l.list l.script l.at
