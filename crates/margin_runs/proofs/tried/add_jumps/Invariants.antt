use Rattle.std.proofs.Common.{◌≡◌, map, take}
use Rattle.clock_margins.specs.Outcomes.{told_of_value}
use Rattle.run_costs.specs.Standing.{IsRunOfList}
use Rattle.margin_runs.specs.Tries.{are_told}
use Rattle.margin_runs.proofs.tried.add_jumps.Given as goal

-- what was told of the jumps so far
abbrev pub invariant-loop-value : goal.invariant-loop-value
invariant-loop-value l =
    (are_told l.all.items
    ≡ map (told_of_value l.common.list.now l.common.script.now l.sweep) (take l.value-index l.values))
    × IsRunOfList l.run.run.run l.common.list.now
    × (l.run.node ≡ l.sweep.node)
