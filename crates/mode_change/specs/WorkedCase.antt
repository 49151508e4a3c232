-- Four nodes with two modes. The host of node 1 asks for the second one, and node 1's payload is live in the first
-- alone.
use Rattle.std.specs.Prelude.{ℕ, ◌-◌, pos, true, false, List, [], ◌∷◌, drop, replicate, Some, None}
use Rattle.ttp_world.specs.declared.medl.Kind.TheVariants as kind
use Rattle.ttp_world.specs.declared.medl.Medl.{Medl}
use Rattle.ttp_world.specs.declared.medl.SlotPlan.{SlotPlan}
use Rattle.ttp_world.specs.declared.script.Event.TheVariants as event
use Rattle.ttp_world.specs.declared.script.Script.{Script}
use Rattle.ttp_world.specs.Diary.{History}
use Rattle.ttp_world.specs.World.{SlotNumbers, Numbers, world}
use Rattle.mode_change.specs.ModeText.{mode_line_of}

abbrev starting : SlotPlan
starting = record { kinds = kind.I ∷ []; payload = 0; sync = true; start = true; requests = false; live = 3 }

abbrev bare : SlotPlan
bare = record { kinds = kind.I ∷ []; payload = 0; sync = true; start = false; requests = false; live = 3 }

abbrev asking : SlotPlan
asking = record { kinds = kind.N ∷ []; payload = 1; sync = true; start = false; requests = true; live = 1 }

-- four nodes in one round and two modes: node 0 may start, and the payload of node 1 may ask for a mode
abbrev pub two_modes : Medl
two_modes = record {
  version = 1;
  rounds = 1;
  schedule = 0;
  buffers = 2;
  drift = pos 0;
  error = pos 0;
  window = pos 1;
  modes = 2;
  slots = starting ∷ asking ∷ bare ∷ bare ∷ [];
}

-- node 1's host writes the request in slot 10
abbrev pub one_request : Script
one_request = record {
  slots = 20;
  on = replicate 4 (Some 0);
  drift = replicate 4 (pos 0);
  events = event.Write 1 10 (2 ∷ []) ∷ [];
}

-- node 1 sends message 0 in slot 9, and message 1 in slots 13 and 17
abbrev quiet : SlotNumbers
quiet = record { sent = replicate 4 None; read = [] }

abbrev sending : ℕ → SlotNumbers
sending i = record { sent = None ∷ Some i ∷ None ∷ None ∷ []; read = [] }

-- the numbers of that run
abbrev pub request_numbers : Numbers
request_numbers =
    quiet ∷ quiet ∷ sending 1 ∷ quiet ∷ quiet ∷ quiet ∷ sending 1 ∷ quiet ∷ quiet ∷ quiet ∷ sending 0
    ∷ replicate 9 quiet

abbrev newest_line : Medl → Script → History → ℕ → List ℕ
newest_line list script [] k = []
newest_line list script (row ∷ before) k = mode_line_of list script row before k

-- the line of node k after a slot
abbrev pub line_after_slot : ℕ → ℕ → List ℕ
line_after_slot slot k =
    newest_line two_modes one_request (world two_modes one_request (drop (19 - slot) request_numbers)) k
