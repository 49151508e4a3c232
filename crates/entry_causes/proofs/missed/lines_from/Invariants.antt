use Rattle.std.proofs.Common.{◌≡◌, ◌++◌, drop}
use Rattle.entry_causes.proofs.missed.lines_from.Given as goal

-- those before here
abbrev pub invariant-loop-at : goal.invariant-loop-at
invariant-loop-at l = l.lines ++ drop l.at l.out.lines ≡ drop l.from l.out.lines
