-- A script with an armed node that was worked out by hand, for a case that the check computes.
use Rattle.std.specs.Prelude.{pos, true, [], ◌∷◌, replicate, Some}
use Rattle.ttp_world.specs.declared.script.Event.TheVariants as event
use Rattle.ttp_world.specs.declared.script.Fault.TheVariants as fault
use Rattle.ttp_world.specs.declared.script.Script.{Script}

-- seven nodes; what node 2 sends in slot 30 is silenced, and it is armed in slot 44
abbrev pub one_armed : Script
one_armed = record {
  slots = 64;
  on = replicate 7 (Some 0);
  drift = replicate 7 (pos 0);
  events = event.Send 2 (record { a = true; b = true }) fault.Silence 30 30 ∷ event.Arm 2 44 ∷ [];
}
