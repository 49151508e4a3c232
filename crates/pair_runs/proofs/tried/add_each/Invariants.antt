use Rattle.std.proofs.Common.{◌≡◌, take}
use Rattle.std.specs.Prelude.{map}
use Rattle.run_costs.specs.Standing.{IsRunOfList}
use Rattle.pair_runs.specs.Tries.{pair_tried}
use Rattle.pair_runs.proofs.tried.add_each.Given as goal

-- those so far
abbrev pub invariant-loop-two : goal.invariant-loop-two
invariant-loop-two l =
    (l.all.items ≡ map (pair_tried l.setting l.apart) (take l.two-index l.faults))
    × IsRunOfList l.run.run l.setting.common.list.now
