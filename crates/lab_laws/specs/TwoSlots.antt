-- A run of two slots: node 0 is on from the first slot on and node 1 from the second, and hosts write and read once.
use Rattle.std.specs.Prelude.{ℕ, pos, true, false, List, [], ◌∷◌, ◌++◌, codes, replicate, Some, None}
use Rattle.ttp_world.specs.declared.keep.Keep.TheVariants as keep
use Rattle.ttp_world.specs.declared.medl.Kind.TheVariants as kind
use Rattle.ttp_world.specs.declared.medl.SlotPlan.{SlotPlan}
use Rattle.ttp_world.specs.declared.medl.Medl.{Medl}
use Rattle.ttp_world.specs.declared.node.Ack.TheVariants as ack
use Rattle.ttp_world.specs.declared.script.Event.TheVariants as event
use Rattle.ttp_world.specs.declared.script.Source.TheVariants as source
use Rattle.ttp_world.specs.declared.script.Script.{Script}
use Rattle.ttp_world.specs.World.{Numbers}
use Rattle.line_reader.specs.declared.trace_line.Word.{Word}
use Rattle.line_reader.specs.declared.trace_line.Word.TheVariants as word
use Rattle.whole_trace.specs.declared.shown.HostLine.TheVariants as host
use Rattle.whole_trace.specs.declared.shown.NodeShown.{NodeShown}
use Rattle.whole_trace.specs.Whole.{WholeTrace}

-- each node sends payload, and may start the cluster
abbrev pub sending_plan : ℕ → SlotPlan
sending_plan size =
    record { kinds = kind.N ∷ []; payload = size; sync = true; start = true; requests = false; live = 1 }

-- four of them
abbrev pub two_slot_list : Medl
two_slot_list = record {
  version = 1;
  rounds = 1;
  schedule = 0;
  buffers = 2;
  drift = pos 0;
  error = pos 0;
  window = pos 1;
  modes = 1;
  slots = replicate 4 (sending_plan 2);
}

-- nodes 2 and 3 are never on
abbrev pub two_slot_script : Script
two_slot_script = record {
  slots = 2;
  on = Some 0 ∷ Some 1 ∷ None ∷ None ∷ [];
  drift = replicate 4 (pos 0);
  events = event.Write 1 0 (10 ∷ 255 ∷ []) ∷ event.Read 0 0 source.Status ∷ event.Read 0 1 (source.Node 1) ∷ [];
}

-- the newest slot's first
abbrev pub two_slot_numbers : Numbers
two_slot_numbers =
    record { sent = replicate 4 None; read = 0 ∷ [] } ∷ record { sent = replicate 4 None; read = 1 ∷ [] } ∷ []

-- a node that listens or is off
abbrev pub shown_idle : Word → NodeShown
shown_idle w = record {
  word = w;
  peer = None;
  message = None;
  members = [];
  accepted = 0;
  rejected = 0;
  ack = ack.Closed;
  offset = pos 0;
}

-- the trace: a status is the slot, the flag of a node that listens, no C-state and no counts
abbrev pub two_slot_trace : WholeTrace
two_slot_trace = record {
  head = record { version = 1; nodes = 4; rounds = 1; slots = 2; schedule = 0 };
  slots =
      record {
        nodes = shown_idle word.Wait ∷ replicate 3 (shown_idle word.Off);
        hosts =
            host.Write 1 1 ∷ host.Read 0 source.Status 1 (replicate 15 0 ++ 2 ∷ replicate 16 0) ∷ [];
      }
      ∷ record {
        nodes = replicate 2 (shown_idle word.Wait) ++ replicate 2 (shown_idle word.Off);
        hosts = host.Read 0 (source.Node 1) 0 (0 ∷ 0 ∷ []) ∷ [];
      }
      ∷ [];
  keep = keep.No 7 8;
  back = None;
}

-- the text of its trace
abbrev pub two_slot_text : List ℕ
two_slot_text =
    codes "ttpbench trace 1 nodes 4 rounds 1 slots 2 schedule 000000\n"
    ++ codes "slot 0 node 0 wait peer - msg - mem 0000 acc 0 rej 0 ack none clock 0\n"
    ++ codes "slot 0 node 1 off peer - msg - mem 0000 acc 0 rej 0 ack none clock 0\n"
    ++ codes "slot 0 node 2 off peer - msg - mem 0000 acc 0 rej 0 ack none clock 0\n"
    ++ codes "slot 0 node 3 off peer - msg - mem 0000 acc 0 rej 0 ack none clock 0\n"
    ++ codes "slot 0 host 1 write 1\n"
    ++ codes "slot 0 host 0 read status 1 0000000000000000000000000000000200000000000000000000000000000000\n"
    ++ codes "slot 1 node 0 wait peer - msg - mem 0000 acc 0 rej 0 ack none clock 0\n"
    ++ codes "slot 1 node 1 wait peer - msg - mem 0000 acc 0 rej 0 ack none clock 0\n"
    ++ codes "slot 1 node 2 off peer - msg - mem 0000 acc 0 rej 0 ack none clock 0\n"
    ++ codes "slot 1 node 3 off peer - msg - mem 0000 acc 0 rej 0 ack none clock 0\n"
    ++ codes "slot 1 host 0 read 1 0 0000\n"
    ++ codes "keeps no H7 8\n"
