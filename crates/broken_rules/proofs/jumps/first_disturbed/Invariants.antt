use Rattle.std.proofs.Common.{◌≡◌}
use Rattle.std.specs.Prelude.{drop}
use Rattle.broken_rules.specs.Jumps.{disturbed_from}
use Rattle.broken_rules.proofs.jumps.first_disturbed.Given as goal

-- the earliest of the events from this place on
abbrev pub invariant-loop-place : goal.invariant-loop-place
invariant-loop-place l = l.earliest ≡ disturbed_from l.list l.script l.place (drop l.place l.script.events)
