-- The lists and scripts of the cases.
use Rattle.std.specs.Prelude.{ℕ, ◌==◌, pos, negsuc, true, false, List, [], ◌∷◌, map, replicate, Some, None}
use Rattle.ttp_base.specs.NodeSet.{below}
use Rattle.ttp_world.specs.declared.medl.Kind.TheVariants as kind
use Rattle.ttp_world.specs.declared.medl.Medl.{Medl}
use Rattle.ttp_world.specs.declared.medl.SlotPlan.{SlotPlan}
use Rattle.ttp_world.specs.declared.script.Event.{Event}
use Rattle.ttp_world.specs.declared.script.Event.TheVariants as event
use Rattle.ttp_world.specs.declared.script.Fault.TheVariants as fault
use Rattle.ttp_world.specs.declared.script.Script.{Script}
use Rattle.campaign.specs.Tried.{both_channels, only_a}

-- Lists of nodes that send bare frames in one round, of which node 0 starts.

abbrev pub bare_slot_of : ℕ → SlotPlan
bare_slot_of k =
    record { kinds = kind.I ∷ []; payload = 0; sync = true; start = k == 0; requests = false; live = 1 }

-- so many nodes, whose clocks drift and are read with errors by so much, within a window of so much
abbrev pub bus_of : ℕ → ℕ → ℕ → Medl
bus_of n bound window = record {
  version = 1;
  rounds = 1;
  schedule = 0;
  buffers = 2;
  drift = pos bound;
  error = pos bound;
  window = pos window;
  modes = 1;
  slots = map bare_slot_of (below n);
}

abbrev pub bus_within : ℕ → ℕ → Medl
bus_within n window = bus_of n 0 window

abbrev pub drifting_bus : Medl
drifting_bus = bus_of 5 1 24

-- Scripts.

-- all n nodes are on from slot 0, so that node 0 starts in slot 2n
abbrev pub started : ℕ → ℕ → List Event → Script
started n slots events =
    record { slots = slots; on = replicate n (Some 0); drift = replicate n (pos 0); events = events }

-- nothing goes wrong
abbrev pub quiet_run : ℕ → ℕ → Script
quiet_run n slots = started n slots []

-- five clocks drift ahead and behind by turns
abbrev pub in_turns : Script
in_turns = record (quiet_run 5 40) { drift = pos 1 ∷ negsuc 0 ∷ pos 1 ∷ negsuc 0 ∷ pos 1 ∷ [] }

-- the frame of node 2 in slot 22 is lost, and it is armed in slot 34
abbrev pub armed_in_34 : Script
armed_in_34 = started 5 60 (event.Send 2 both_channels fault.Silence 22 22 ∷ event.Arm 2 34 ∷ [])

-- of four nodes node 2 is never on and node 3 from slot 14 on, and one frame of node 1 is lost on channel A
abbrev pub few : Script
few = record {
  slots = 24;
  on = Some 0 ∷ Some 0 ∷ None ∷ Some 14 ∷ [];
  drift = replicate 4 (pos 0);
  events = event.Send 1 only_a fault.Silence 13 13 ∷ [];
}
