use Rattle.std.proofs.Common.{◌≡◌}
use Rattle.std.specs.Prelude.{drop}
use Rattle.hypothesis.specs.Standing.{told_start}
use Rattle.broken_arms.specs.Arms.{broken_from}
use Rattle.broken_arms.proofs.arms.broken_from.Given as goal

-- the first of the events from this place on
abbrev pub invariant-loop-place : goal.invariant-loop-place
invariant-loop-place l =
    broken_from l.list l.script (told_start l.start) l.slot 0 l.script.events
    ≡ broken_from l.list l.script (told_start l.start) l.slot l.place (drop l.place l.script.events)
