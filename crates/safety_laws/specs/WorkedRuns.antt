-- Runs of five nodes in which one thing goes wrong.
use Rattle.std.specs.Prelude.{ℕ, pos, true, None, [], ◌∷◌, replicate, Some}
use Rattle.ttp_world.specs.declared.medl.Medl.{Medl}
use Rattle.ttp_world.specs.declared.script.Event.{Event}
use Rattle.ttp_world.specs.declared.script.Event.TheVariants as event
use Rattle.ttp_world.specs.declared.script.Fault.TheVariants as fault
use Rattle.ttp_world.specs.declared.script.Script.{Script}
use Rattle.ttp_world.specs.Diary.{History}
use Rattle.ttp_world.specs.World.{Numbers, world}
use Rattle.precision.specs.WorkedRun.{bare_slot}

-- five nodes in one round, with I-frames: each is measured and may start, the drift is 1 and the window 100 microticks
abbrev pub five_measured : Medl
five_measured = record {
  version = 1;
  rounds = 1;
  schedule = 0;
  buffers = 2;
  drift = pos 1;
  error = pos 0;
  window = pos 100;
  modes = 1;
  slots = replicate 5 bare_slot;
}

-- all nodes are on from slot 0, so that node 0 starts in slot 10, and one event happens
abbrev pub one_event_script : Event → Script
one_event_script e = record { slots = 40; on = replicate 5 (Some 0); drift = replicate 5 (pos 0); events = e ∷ [] }

-- what node 2 sends in slot 22 is silenced
abbrev pub silenced : Script
silenced = one_event_script (event.Send 2 (record { a = true; b = true }) fault.Silence 22 22)

-- node 3 hears noise in slot 22, where node 2 sends
abbrev pub deafened : Script
deafened = one_event_script (event.Receive 3 (record { a = true; b = true }) fault.Noise 22 22)

-- node 2 hears noise in slot 23, the slot after its own
abbrev pub deafened_at_once : Script
deafened_at_once = one_event_script (event.Receive 2 (record { a = true; b = true }) fault.Noise 23 23)

-- node 2 hears nothing in slots 24 to 26
abbrev pub deafened_on : Script
deafened_on = one_event_script (event.Receive 2 (record { a = true; b = true }) fault.Silence 24 26)

-- node 3's clock jumps by four windows in slot 22
abbrev pub clock_jumped : Script
clock_jumped = one_event_script (event.Jump 3 (pos 400) 22)

-- no frame carries payload, and nobody reads
abbrev pub quiet_numbers : ℕ → Numbers
quiet_numbers slots = replicate slots (record { sent = replicate 5 None; read = [] })

-- the run of a script, after so many slots
abbrev pub run_of : Script → ℕ → History
run_of script slots = world five_measured script (quiet_numbers slots)
