-- A list, a script and message numbers, and a line of the trace.
use Rattle.std.specs.Prelude.{ℕ, pos, true, false, List, [], ◌∷◌, replicate, Some, None}
use Rattle.ttp_world.specs.declared.medl.Kind.TheVariants as kind
use Rattle.ttp_world.specs.declared.medl.SlotPlan.{SlotPlan}
use Rattle.ttp_world.specs.declared.medl.Medl.{Medl}
use Rattle.ttp_world.specs.declared.script.Event.TheVariants as event
use Rattle.ttp_world.specs.declared.script.Fault.TheVariants as fault
use Rattle.ttp_world.specs.declared.script.Source.TheVariants as source
use Rattle.ttp_world.specs.declared.script.Script.{Script}
use Rattle.ttp_world.specs.Diary.{History}
use Rattle.ttp_world.specs.Trace.{node_line_of}
use Rattle.ttp_world.specs.World.{SlotNumbers, Numbers, world}

-- A slot's kinds are kind.I, kind.N or kind.X, one for each round. Bit m of `live`, the least significant first, is
-- mode m.

abbrev pub starting : SlotPlan
starting = record { kinds = kind.I ∷ []; payload = 0; sync = true; start = true; requests = false; live = 1 }

abbrev pub bare : SlotPlan
bare = record { kinds = kind.I ∷ []; payload = 0; sync = true; start = false; requests = false; live = 1 }

abbrev pub loaded : SlotPlan
loaded = record { kinds = kind.N ∷ []; payload = 2; sync = true; start = false; requests = false; live = 1 }

-- Version 2 has up to 24 slots, and version 1 up to 16. Microticks are pos n, and negsuc n for -(n + 1).
abbrev pub list : Medl
list = record {
  version = 1;
  rounds = 1;
  schedule = 0;
  buffers = 2;
  drift = pos 0;
  error = pos 0;
  window = pos 1;
  modes = 1;
  slots = starting ∷ loaded ∷ bare ∷ bare ∷ [];
}

-- `on` and `drift` have one place for each node. The events of a script are
--   event.Send node channels fault from to          event.Receive node channels fault from to
--   event.Flip node channels bit slot               event.Error node value from to
--   event.Jump node value slot                      event.Arm node slot
--   event.Write node slot payload                   event.Read node slot source.Status
--                                                   event.Read node slot (source.Node sender)
-- with channels as record { a = true; b = false }, and fault.Silence or fault.Noise
abbrev pub script : Script
script = record {
  slots = 20;
  on = replicate 4 (Some 0);
  drift = replicate 4 (pos 0);
  events =
      event.Receive 3 (record { a = true; b = false }) fault.Noise 9 9
      ∷ event.Write 1 9 (10 ∷ 11 ∷ [])
      ∷ event.Read 0 9 (source.Node 1)
      ∷ [];
}

-- the message numbers of each slot: for each node that of its frame, where it sends one with payload, and one for
-- each read of the slot in the order of the script
abbrev pub quiet : SlotNumbers
quiet = record { sent = replicate 4 None; read = [] }

-- the newest slot's first: here slot 9, after nine slots without numbers
abbrev pub numbers : Numbers
numbers = record { sent = None ∷ Some 1 ∷ None ∷ None ∷ []; read = 1 ∷ [] } ∷ replicate 9 quiet

-- the line of node k after the newest slot that has numbers
abbrev pub line_after : Medl → Script → History → ℕ → List ℕ
line_after l s [] k = []
line_after l s (row ∷ before) k = node_line_of l s row before k

abbrev pub newest_line : Medl → Script → Numbers → ℕ → List ℕ
newest_line l s n k = line_after l s (world l s n) k
