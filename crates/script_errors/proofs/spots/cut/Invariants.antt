use Rattle.std.proofs.Common.{◌≡◌, ◌++◌, drop}
use Rattle.script_errors.specs.Spots.{spots_of, spots_from}
use Rattle.script_errors.proofs.spots.cut.Given as goal

-- the words so far, and those of what is left, are all
abbrev pub invariant-loop-place : goal.invariant-loop-place
invariant-loop-place l = l.spots.items ++ spots_from l.place l.begun (drop l.place l.line) ≡ spots_of l.line
