-- The lists and scripts of the cases, with the numbers of their lines.
use Rattle.std.specs.List.{range_with_len}
use Rattle.std.specs.Prelude.{Bool, List, None, Some, [], false, neg_ℤ, pos, replicate, reverse, suc, true, ℕ, ℤ, ◌∷◌}
use Rattle.campaign.specs.Tried.{both_channels, only_a, only_b}
use Rattle.ttp_world.specs.ZerosWorld.{zeros_world}
use Rattle.causes.specs.RunSlots.{RunSlots, newest_spot, slots_of_run}
use Rattle.causes.specs.Story.{spots_back, told_spot}
use Rattle.causes.specs.WhyText.{told_line}
use Rattle.causes.specs.declared.cause.LineNumbers.{LineNumbers}
use Rattle.ttp_world.specs.declared.medl.Medl.{Medl}
use Rattle.ttp_world.specs.declared.medl.SlotPlan.{SlotPlan}
use Rattle.ttp_world.specs.declared.script.Event.{Event}
use Rattle.ttp_world.specs.declared.script.Script.{Script}
use Rattle.ttp_world.specs.declared.script.Event.TheVariants as event
use Rattle.ttp_world.specs.declared.script.Fault.TheVariants as fault
use Rattle.ttp_world.specs.declared.medl.Kind.TheVariants as kind
use Rattle.ttp_world.specs.declared.script.Source.TheVariants as source

-- Lists of five nodes with a window of so much.

-- a slot with bare frames in one round, and with implicit frames and explicit ones in two
abbrev pub one_kind_slot : Bool → SlotPlan
one_kind_slot start =
    record { kinds = kind.I ∷ []; payload = 0; sync = true; start = start; requests = false; live = 1 }

abbrev pub two_kind_slot : Bool → SlotPlan
two_kind_slot start =
    record { kinds = kind.N ∷ kind.X ∷ []; payload = 2; sync = true; start = start; requests = false; live = 1 }

-- node 0 alone may start
abbrev pub bus_of_five : ℤ → ℤ → ℤ → Medl
bus_of_five drift error window = record {
  version = 1;
  rounds = 1;
  schedule = 0;
  buffers = 2;
  drift = drift;
  error = error;
  window = window;
  modes = 1;
  slots = one_kind_slot true ∷ one_kind_slot false ∷ one_kind_slot false
      ∷ one_kind_slot false ∷ one_kind_slot false ∷ [];
}

abbrev pub bare_five : Medl
bare_five = bus_of_five (pos 0) (pos 0) (pos 1)

abbrev pub drifting_five : Medl
drifting_five = bus_of_five (pos 1) (pos 1) (pos 24)

-- nodes 0 and 1 may start
abbrev pub mixed : Medl
mixed = record {
  version = 2;
  rounds = 2;
  schedule = 4660;
  buffers = 2;
  drift = pos 0;
  error = pos 0;
  window = pos 1;
  modes = 1;
  slots = two_kind_slot true ∷ two_kind_slot true ∷ two_kind_slot false
      ∷ two_kind_slot false ∷ two_kind_slot false ∷ [];
}

-- Scripts that switch all five nodes on in slot 0, by lines 3 to 7.

abbrev pub no_drift : List ℤ
no_drift = replicate 5 (pos 0)

abbrev pub five_on_script : ℕ → List Event → Script
five_on_script slots events =
    record { slots = slots; on = replicate 5 (Some 0); drift = no_drift; events = events }

abbrev pub event_numbers : List ℕ → LineNumbers
event_numbers events = record { on = range_with_len 3 5; drift = replicate 5 0; events = events }

-- the receivers of nodes 3 and 4 are dead on channel A from the beginning, and one frame is lost on B
abbrev pub latent_loss : Script
latent_loss =
    five_on_script 45
    (event.Receive 3 only_a fault.Silence 0 44 ∷ event.Receive 4 only_a fault.Silence 0 44
    ∷ event.Send 2 only_b fault.Silence 22 22 ∷ [])

abbrev pub latent_numbers : LineNumbers
latent_numbers = event_numbers (8 ∷ 9 ∷ 10 ∷ [])

-- the first frame behind the cold start is noise
abbrev pub noisy : Script
noisy = five_on_script 45 (event.Send 1 both_channels fault.Noise 11 11 ∷ [])

abbrev pub noisy_numbers : LineNumbers
noisy_numbers = event_numbers (8 ∷ [])

-- the starter is deaf from its start on, and node 2 is armed when it has left
abbrev pub deaf_starter : Script
deaf_starter =
    five_on_script 70
    (event.Receive 0 both_channels fault.Silence 11 69 ∷ event.Arm 2 40 ∷ event.Receive 3 only_a fault.Noise 12 12 ∷ [])

abbrev pub deaf_starter_numbers : LineNumbers
deaf_starter_numbers = event_numbers (8 ∷ 10 ∷ 11 ∷ [])

-- two nodes are lost, and the clocks of the others drift apart
abbrev pub clocks : Script
clocks = record {
  slots = 70;
  on = replicate 5 (Some 0);
  drift = pos 1 ∷ neg_ℤ (pos 1) ∷ pos 1 ∷ neg_ℤ (pos 1) ∷ pos 1 ∷ [];
  events =
      event.Send 2 both_channels fault.Silence 22 22 ∷ event.Send 0 both_channels fault.Silence 40 40
      ∷ event.Jump 1 (pos 3) 30 ∷ [];
}

abbrev pub clock_numbers : LineNumbers
clock_numbers =
    record { on = range_with_len 3 5; drift = range_with_len 8 5; events = 13 ∷ 14 ∷ 15 ∷ [] }

-- node 2's clock jumps in its own slot, which nobody else hears on both channels
abbrev pub jump : Script
jump =
    five_on_script 45
    (event.Error 2 (pos 0) 3 4 ∷ event.Jump 2 (pos 4) 22 ∷ event.Receive 3 both_channels fault.Silence 22 22
    ∷ event.Receive 4 both_channels fault.Silence 22 22 ∷ event.Send 1 only_a fault.Noise 26 26
    ∷ event.Read 3 30 source.Status ∷ event.Jump 2 (pos 0) 23 ∷ [])

abbrev pub jump_numbers : LineNumbers
jump_numbers = event_numbers (10 ∷ 11 ∷ 12 ∷ 13 ∷ 14 ∷ 15 ∷ 16 ∷ [])

-- two starters collide, and a frame with implicit C-state is spoilt by flips, of which some cancel
abbrev pub flips : Script
flips = record {
  slots = 60;
  on = Some 1 ∷ replicate 4 (Some 0);
  drift = no_drift;
  events =
      event.Write 3 30 (0 ∷ 255 ∷ []) ∷ event.Flip 3 only_a 12 35 ∷ event.Flip 3 both_channels 13 35
      ∷ event.Flip 3 only_b 14 35 ∷ event.Flip 3 only_a 12 35 ∷ event.Flip 3 both_channels 200 35 ∷ [];
}

abbrev pub flip_numbers : LineNumbers
flip_numbers = event_numbers (8 ∷ 9 ∷ 10 ∷ 11 ∷ 12 ∷ 13 ∷ [])

-- node 4 comes late, and node 3 never
abbrev pub late_nodes : Script
late_nodes = record {
  slots = 45;
  on = Some 0 ∷ Some 0 ∷ Some 0 ∷ None ∷ Some 30 ∷ [];
  drift = no_drift;
  events = [];
}

abbrev pub late_numbers : LineNumbers
late_numbers = record { on = 3 ∷ 4 ∷ 5 ∷ 0 ∷ 6 ∷ []; drift = replicate 5 0; events = [] }

-- node 3 alone does not hear node 2
abbrev pub missed_frame : Script
missed_frame = five_on_script 45 (event.Receive 3 both_channels fault.Silence 22 22 ∷ [])

abbrev pub missed_numbers : LineNumbers
missed_numbers = event_numbers (8 ∷ [])

-- The line of one entry, with all that it names.

abbrev pub line_in_run : Medl → LineNumbers → RunSlots → ℕ → List ℕ
line_in_run list numbers run k =
    told_line list numbers run (reverse (spots_back run)) [] (told_spot run (newest_spot k run))

abbrev pub entry_line : Medl → Script → LineNumbers → ℕ → ℕ → List ℕ
entry_line list script numbers slot k =
    line_in_run list numbers (slots_of_run list script (zeros_world list script (suc slot))) k
