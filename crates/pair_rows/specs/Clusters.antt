-- The lists and scripts of the cases.
use Rattle.std.specs.Prelude.{ℕ, ◌==◌, pos, true, false, List, [], ◌∷◌, map, replicate, Some, None}
use Rattle.ttp_base.specs.NodeSet.{below}
use Rattle.ttp_world.specs.declared.medl.Kind.TheVariants as kind
use Rattle.ttp_world.specs.declared.medl.Medl.{Medl}
use Rattle.ttp_world.specs.declared.medl.SlotPlan.{SlotPlan}
use Rattle.ttp_world.specs.declared.script.Event.{Event}
use Rattle.ttp_world.specs.declared.script.Event.TheVariants as event
use Rattle.ttp_world.specs.declared.script.Fault.TheVariants as fault
use Rattle.ttp_world.specs.declared.script.Script.{Script}
use Rattle.campaign.specs.Tried.{both_channels, only_a}

-- Lists of nodes that send bare frames in one round, of which node 0 starts.

abbrev pub bare_slot_of : ℕ → SlotPlan
bare_slot_of k =
    record { kinds = kind.I ∷ []; payload = 0; sync = true; start = k == 0; requests = false; live = 1 }

-- so many nodes, whose clocks do not drift, within a window of so much
abbrev pub plain_bus : ℕ → ℕ → Medl
plain_bus n window = record {
  version = 1;
  rounds = 1;
  schedule = 0;
  buffers = 2;
  drift = pos 0;
  error = pos 0;
  window = pos window;
  modes = 1;
  slots = map bare_slot_of (below n);
}

-- Scripts.

-- all n nodes are on from slot 0, so that node 0 starts in slot 2n
abbrev pub started : ℕ → ℕ → List Event → Script
started n slots events =
    record { slots = slots; on = replicate n (Some 0); drift = replicate n (pos 0); events = events }

-- nothing goes wrong
abbrev pub quiet_run : ℕ → ℕ → Script
quiet_run n slots = started n slots []

-- nodes 3 and 4 hear nothing on channel A
abbrev pub two_deaf_on_a : Script
two_deaf_on_a =
    started 5 45 (event.Receive 3 only_a fault.Silence 0 44 ∷ event.Receive 4 only_a fault.Silence 0 44 ∷ [])

-- the frame of node 2 in slot 22 is lost, and it is armed in slot 34
abbrev pub armed_in_34 : Script
armed_in_34 = started 5 60 (event.Send 2 both_channels fault.Silence 22 22 ∷ event.Arm 2 34 ∷ [])

-- of four nodes node 3 leaves before its slot 19, so that nobody sends there
abbrev pub node_3_gone : Script
node_3_gone = started 4 30 (event.Send 3 both_channels fault.Silence 11 11 ∷ [])

-- of four nodes node 0 alone is on
abbrev pub node_0_alone : Script
node_0_alone =
    record { slots = 12; on = Some 0 ∷ None ∷ None ∷ None ∷ []; drift = replicate 4 (pos 0); events = [] }
