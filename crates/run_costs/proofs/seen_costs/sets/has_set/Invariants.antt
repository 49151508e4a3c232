use Rattle.std.proofs.Common.{◌≡◌, false, take}
use Rattle.std.specs.List.{list_any}
use Rattle.std.specs.Str.{bytes_eq}
use Rattle.run_costs.proofs.seen_costs.sets.has_set.Given as goal

-- none of those so far is the same
abbrev pub invariant-loop-other : goal.invariant-loop-other
invariant-loop-other l = list_any (bytes_eq l.set) (take l.other-index l.sets) ≡ false
