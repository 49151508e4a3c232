use Rattle.std.proofs.Common.{◌≡◌}
use Rattle.std.specs.Prelude.{drop}
use Rattle.broken_faults.specs.Faults.{place_from, may_cause_loss}
use Rattle.broken_faults.proofs.causes.cause_of_loss.Given as goal

-- the first of the events from this place on
abbrev pub invariant-loop-place : goal.invariant-loop-place
invariant-loop-place l =
    place_from (may_cause_loss l.sender l.lost l.slot) 0 l.script.events
    ≡ place_from (may_cause_loss l.sender l.lost l.slot) l.place (drop l.place l.script.events)
