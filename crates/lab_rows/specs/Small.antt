-- A trace of four nodes and three slots, and its waveform, worked out from the rules of the waveform.
use Rattle.std.specs.Prelude.{ℕ, ℤ, pos, negsuc, List, [], ◌∷◌, Option, Some, None}
use Rattle.ttp_world.specs.declared.keep.Back.TheVariants as back
use Rattle.ttp_world.specs.declared.keep.Keep.TheVariants as keep
use Rattle.ttp_world.specs.declared.node.Ack.{Ack}
use Rattle.ttp_world.specs.declared.node.Ack.TheVariants as ack
use Rattle.ttp_world.specs.declared.script.Source.TheVariants as source
use Rattle.line_reader.specs.declared.trace_line.Word.{Word}
use Rattle.line_reader.specs.declared.trace_line.Word.TheVariants as word
use Rattle.whole_trace.specs.declared.shown.HostLine.TheVariants as line
use Rattle.whole_trace.specs.declared.shown.NodeShown.{NodeShown}
use Rattle.whole_trace.specs.Whole.{SlotLines, WholeTrace}

-- what a node's line says behind its slot and its node
abbrev pub shown : Word → Option ℕ → Option ℕ → List ℕ → ℕ → ℕ → Ack → ℤ → NodeShown
shown w peer message members accepted rejected a clock = record {
  word = w;
  peer = peer;
  message = message;
  members = members;
  accepted = accepted;
  rejected = rejected;
  ack = a;
  offset = clock;
}

abbrev pub slot_0 : SlotLines
slot_0 = record {
  nodes =
      (shown word.Send (Some 0) (Some 4) (0 ∷ 1 ∷ 2 ∷ []) 2 0 ack.First (pos 5))
      ∷ shown word.Correct (Some 0) (Some 4) (0 ∷ 1 ∷ 2 ∷ []) 3 0 ack.Closed (negsuc 2)
      ∷ shown word.Correct (Some 0) None (1 ∷ 2 ∷ []) 3 1 ack.Closed (pos 0)
      ∷ shown word.Off None None ([]) 0 0 ack.Closed (pos 0)
      ∷ [];
  hosts = (line.Write 0 5) ∷ (line.Write 0 6) ∷ (line.Read 1 (source.Node 0) 3 (10 ∷ []))
      ∷ (line.Read 1 (source.Node 0) 4 (10 ∷ 11 ∷ [])) ∷ [];
}

abbrev pub slot_1 : SlotLines
slot_1 = record {
  nodes =
      (shown word.Tentative (Some 1) None (0 ∷ 1 ∷ 2 ∷ []) 2 0 (ack.Doubt 1) (pos 5))
      ∷ shown word.Send (Some 1) None (0 ∷ 1 ∷ 2 ∷ []) 1 0 ack.First (negsuc 2)
      ∷ shown word.Clique (Some 1) None ([]) 0 0 ack.Closed (pos 0)
      ∷ shown word.Wait None None ([]) 0 0 ack.Closed (pos 0)
      ∷ [];
  hosts = (line.Read 1 (source.Node 0) 4 (12 ∷ [])) ∷ [];
}

abbrev pub slot_2 : SlotLines
slot_2 = record {
  nodes =
      (shown word.Denied (Some 2) None ([]) 0 0 ack.Closed (pos 5))
      ∷ shown word.Null (Some 2) None (0 ∷ 1 ∷ []) 1 0 ack.First (negsuc 2)
      ∷ shown word.Gone None None ([]) 0 0 ack.Closed (pos 0)
      ∷ shown word.Wait None None ([]) 0 0 ack.Closed (pos 0)
      ∷ [];
  hosts = [];
}

-- the trace
abbrev pub small : WholeTrace
small = record {
  head = record { version = 1; nodes = 4; rounds = 1; slots = 3; schedule = 0 };
  slots = slot_0 ∷ slot_1 ∷ slot_2 ∷ [];
  keep = keep.No 5 1;
  back = Some (back.No 8 2);
}
