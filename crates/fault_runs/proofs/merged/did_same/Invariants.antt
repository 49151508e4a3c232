use Rattle.fault_runs.proofs.Words.{ℕ, ◌<◌}
use Rattle.ttp_world.specs.Diary.{entry_of}
use Rattle.run_costs.specs.States.{state_at}
use Rattle.fault_runs.specs.Merging.{IsSameDeed}
use Rattle.fault_runs.proofs.merged.did_same.Given as goal

-- each of those so far did
abbrev pub invariant-loop-k : goal.invariant-loop-k
invariant-loop-k l = (j : ℕ) → j < l.k → IsSameDeed (state_at l.states j).entry (entry_of l.row j)
