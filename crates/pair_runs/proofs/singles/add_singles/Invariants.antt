use Rattle.std.specs.Prelude.{All}
use Rattle.run_costs.specs.Standing.{IsRunOfList}
use Rattle.pair_runs.specs.Tries.{IsSingle}
use Rattle.pair_runs.proofs.singles.add_singles.Given as goal

-- each so far is true
abbrev pub invariant-loop-fault : goal.invariant-loop-fault
invariant-loop-fault l = All (IsSingle l.list l.script) l.all.items × IsRunOfList l.run.run l.list
