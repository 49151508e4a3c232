use Rattle.std.proofs.Common.{◌≡◌, take}
use Rattle.causes.specs.Reduced.{places_of_lines}
use Rattle.reduced_runs.proofs.runs.places_of.Given as goal

-- those of the lines so far
abbrev pub invariant-loop-line : goal.invariant-loop-line
invariant-loop-line l = l.places ≡ places_of_lines (take l.line-index l.lines)
