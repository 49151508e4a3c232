use Rattle.std.proofs.Common.{◌≡◌, take}
use Rattle.causes.specs.Reduced.{without_line}
use Rattle.reduced_runs.proofs.runs.without.Given as goal

-- those of the lines so far
abbrev pub invariant-loop-other : goal.invariant-loop-other
invariant-loop-other l = l.others ≡ without_line (take l.other-index l.lines) l.line
