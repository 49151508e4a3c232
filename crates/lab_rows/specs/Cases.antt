-- The lists and scripts of the cases.
use Rattle.std.specs.Prelude.{ℕ, pos, true, false, List, [], ◌∷◌, map, replicate, Some}
use Rattle.ttp_base.specs.NodeSet.{below, has_node}
use Rattle.ttp_world.specs.declared.medl.Kind.TheVariants as kind
use Rattle.ttp_world.specs.declared.medl.Medl.{Medl}
use Rattle.ttp_world.specs.declared.medl.SlotPlan.{SlotPlan}
use Rattle.ttp_world.specs.declared.script.Event.{Event}
use Rattle.ttp_world.specs.declared.script.Event.TheVariants as event
use Rattle.ttp_world.specs.declared.script.Fault.TheVariants as fault
use Rattle.ttp_world.specs.declared.script.Script.{Script}
use Rattle.campaign.specs.Tried.{both_channels, only_a}

-- Lists of nodes that send bare frames in one round, of which node 0 starts.

abbrev pub bare_slot_at : ℕ → SlotPlan
bare_slot_at k = record {
  kinds = kind.I ∷ [];
  payload = 0;
  sync = true;
  start = has_node (0 ∷ []) k;
  requests = false;
  live = 1;
}

-- a list of n nodes whose frames carry nothing, with this window
abbrev pub bare_list_within : ℕ → ℕ → Medl
bare_list_within n window = record {
  version = 1;
  rounds = 1;
  schedule = 0;
  buffers = 2;
  drift = pos 0;
  error = pos 0;
  window = pos window;
  modes = 1;
  slots = map bare_slot_at (below n);
}

-- all n nodes are on from slot 0, so that node 0 starts in slot 2n
abbrev pub started_script : ℕ → ℕ → List Event → Script
started_script n slots events =
    record { slots = slots; on = replicate n (Some 0); drift = replicate n (pos 0); events = events }

abbrev pub five : Medl
five = bare_list_within 5 1

abbrev pub eventless_script : Script
eventless_script = started_script 5 45 []

-- the receivers of nodes 3 and 4 are dead on channel A from the beginning
abbrev pub latent : Script
latent =
    started_script 5 45 (event.Receive 3 only_a fault.Silence 0 44 ∷ event.Receive 4 only_a fault.Silence 0 44 ∷ [])

-- node 2 of six leaves since its frame of slot 26 is noise, and is armed in slot 40
abbrev pub six : Medl
six = bare_list_within 6 2

abbrev pub armed : Script
armed = started_script 6 66 (event.Send 2 both_channels fault.Noise 26 26 ∷ event.Arm 2 40 ∷ [])
