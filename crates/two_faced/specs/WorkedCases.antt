-- Lists and scripts of the cases that were worked out by hand: four nodes whose clocks drift by at most one microtick
-- in a slot. Node 0 starts in slot 8, so node 3 is due in slots 11, 15, 19 and so on, and two rounds have passed in
-- slot 16.
use Rattle.std.specs.Prelude.{ℕ, ℤ, pos, true, false, List, [], ◌∷◌, replicate, Option, Some}
use Rattle.ttp_world.specs.declared.medl.Kind.TheVariants as kind
use Rattle.ttp_world.specs.declared.medl.Medl.{Medl}
use Rattle.ttp_world.specs.declared.medl.SlotPlan.{SlotPlan}
use Rattle.ttp_world.specs.declared.script.Channels.{Channels}
use Rattle.ttp_world.specs.declared.script.Event.{Event}
use Rattle.ttp_world.specs.declared.script.Script.{Script}
use Rattle.ttp_world.specs.World.{Numbers}

abbrev starter : SlotPlan
starter = record { kinds = kind.I ∷ []; payload = 0; sync = true; start = true; requests = false; live = 1 }

abbrev follower : SlotPlan
follower = record { kinds = kind.I ∷ []; payload = 0; sync = true; start = false; requests = false; live = 1 }

-- a list of these slots in one round with this window, where the drift is 1 microtick and reading errors are 0
abbrev pub one_round_list : ℤ → List SlotPlan → Medl
one_round_list window slots = record {
  version = 1;
  rounds = 1;
  schedule = 0;
  buffers = 2;
  drift = pos 1;
  error = pos 0;
  window = window;
  modes = 1;
  slots = slots;
}

-- of which node 0 may start
abbrev pub one_starter : ℤ → Medl
one_starter window = one_round_list window (starter ∷ replicate 3 follower)

-- of which nodes 0 and 1 may
abbrev pub two_starters : Medl
two_starters = one_round_list (pos 64) (starter ∷ starter ∷ follower ∷ follower ∷ [])

-- nodes that are switched on in these slots, of which the clock of the first gains a microtick in a slot
abbrev pub gaining_script : List (Option ℕ) → List Event → Script
gaining_script on events =
    record { slots = 28; on = on; drift = pos 1 ∷ pos 0 ∷ pos 0 ∷ pos 0 ∷ []; events = events }

-- all on from slot 0
abbrev pub four_on_script : List Event → Script
four_on_script events = gaining_script (replicate 4 (Some 0)) events

-- channels A and B
abbrev pub both : Channels
both = record { a = true; b = true }

-- the slots of a run in which no frame carries payload
abbrev pub no_numbers_in_run : Numbers
no_numbers_in_run = replicate 28 (record { sent = []; read = [] })
