use Rattle.std.proofs.Common.{◌≡◌, ◌++◌, drop}
use Rattle.causes.specs.Reduced.{events_kept}
use Rattle.reduced_runs.proofs.script.kept_events.Given as goal

-- those so far, with what is kept of the events from here on
abbrev pub invariant-loop-place : goal.invariant-loop-place
invariant-loop-place l =
    l.kept ++ events_kept l.places l.place (drop l.place l.events) ≡ events_kept l.places 0 l.events
