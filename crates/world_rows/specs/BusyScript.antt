-- A cluster of eight nodes with four buffers, which all send sixteen bytes, and a script with two faults, two clocks
-- that drift, reading errors, and a host that writes in twenty slots while another reads.
use Rattle.std.specs.Prelude.{ℕ, pos, negsuc, Bool, true, false, List, [], ◌∷◌}
use Rattle.std.specs.Prelude.{◌++◌, codes, decimal, replicate, flat_map, Some}
use Rattle.std.specs.List.{range_with_len}
use Rattle.ttp_base.specs.NodeSet.{below}
use Rattle.ttp_base.specs.Text.{hex}
use Rattle.ttp_world.specs.declared.medl.Kind.TheVariants as kind
use Rattle.ttp_world.specs.declared.medl.SlotPlan.{SlotPlan}
use Rattle.ttp_world.specs.declared.medl.Medl.{Medl}
use Rattle.ttp_world.specs.declared.script.Fault.TheVariants as fault
use Rattle.ttp_world.specs.declared.script.Source.TheVariants as source
use Rattle.ttp_world.specs.declared.script.Event.{Event}
use Rattle.ttp_world.specs.declared.script.Event.TheVariants as event
use Rattle.ttp_world.specs.declared.script.Script.{Script}

-- a slot of N and X frames in turn, with sixteen bytes
abbrev pub alternating_slot : Bool → SlotPlan
alternating_slot start = record {
  kinds = kind.N ∷ kind.X ∷ kind.N ∷ kind.X ∷ [];
  payload = 16;
  sync = true;
  start = start;
  requests = false;
  live = 1;
}

-- eight such nodes, of which two may start, with four buffers
abbrev pub eight_nodes : Medl
eight_nodes = record {
  version = 1;
  rounds = 4;
  schedule = 4660;
  buffers = 4;
  drift = pos 1;
  error = pos 2;
  window = pos 64;
  modes = 1;
  slots = alternating_slot true ∷ alternating_slot true ∷ replicate 6 (alternating_slot false);
}

-- the lines of a slot in which the hosts are busy, and what happens there
abbrev pub busy_lines : ℕ → List ℕ
busy_lines t =
    codes "write 1 " ++ decimal t ++ codes " " ++ flat_map (λ k. hex 2 t) (below 16)
    ++ codes "\nread 5 " ++ decimal t ++ codes " status\nread 5 " ++ decimal t ++ codes " 1\n"

abbrev pub busy_events : ℕ → List Event
busy_events t = event.Write 1 t (replicate 16 t) ∷ event.Read 5 t source.Status ∷ event.Read 5 t (source.Node 1) ∷ []

-- the slots in which the hosts are busy
abbrev pub busy_slots : List ℕ
busy_slots = range_with_len 100 20

-- the text of the script, and the script that it is
abbrev pub busy_text : List ℕ
busy_text =
    codes "slots 400\non 0 0\non 1 0\non 2 0\non 3 0\non 4 0\non 5 0\non 6 0\non 7 0\n"
    ++ codes "drift 1 1\ndrift 4 -1\nerror 2 2 0 399\nerror 5 -2 0 399\n"
    ++ codes "send 0 AB noise 40 40\nreceive 3 AB silence 70 70\n"
    ++ flat_map busy_lines busy_slots

abbrev pub busy_script : Script
busy_script = record {
  slots = 400;
  on = replicate 8 (Some 0);
  drift = pos 0 ∷ pos 1 ∷ pos 0 ∷ pos 0 ∷ negsuc 0 ∷ pos 0 ∷ pos 0 ∷ pos 0 ∷ [];
  events = event.Error 2 (pos 2) 0 399 ∷ event.Error 5 (negsuc 1) 0 399
      ∷ event.Send 0 (record { a = true; b = true }) fault.Noise 40 40
      ∷ event.Receive 3 (record { a = true; b = true }) fault.Silence 70 70
      ∷ flat_map busy_events busy_slots;
}
