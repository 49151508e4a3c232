use Rattle.std.proofs.Common.{◌≡◌}
use Rattle.std.specs.Prelude.{drop}
use Rattle.broken_faults.specs.Faults.{place_from, is_jump_in}
use Rattle.broken_faults.proofs.causes.first_jump_in.Given as goal

-- the first of the events from this place on
abbrev pub invariant-loop-place : goal.invariant-loop-place
invariant-loop-place l =
    place_from (is_jump_in l.node l.slot) 0 l.script.events
    ≡ place_from (is_jump_in l.node l.slot) l.place (drop l.place l.script.events)
