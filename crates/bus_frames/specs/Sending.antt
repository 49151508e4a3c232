-- What a node sends in a slot, and with which C-state and clock.
use Rattle.std.specs.Prelude.{ℕ, List, length}
use Rattle.ttp_world.specs.declared.medl.Medl.{Medl}
use Rattle.ttp_world.specs.declared.node.Act.{Act}
use Rattle.ttp_world.specs.declared.node.Act.TheVariants.{Start}
use Rattle.ttp_world.specs.declared.node.CState.{CState}
use Rattle.ttp_world.specs.declared.node.Entry.{Entry}
use Rattle.ttp_world.specs.declared.script.Script.{Script}
use Rattle.ttp_world.specs.Act.{coming_place}
use Rattle.ttp_world.specs.Conduct.{cold_start_cstate, own_cstate}
use Rattle.ttp_world.specs.Diary.{History}
use Rattle.ttp_world.specs.Frame.{cold_start_header, header_of}
use Rattle.ttp_world.specs.Medium.{SentFrame}
use Rattle.ttp_world.specs.Medl.{kind_at, payload_length}
use Rattle.ttp_world.specs.Messages.{messages_of}
use Rattle.ttp_world.specs.Past.{NodePast}
use Rattle.ttp_world.specs.World.{BegunSlot, frames_in, node_of, slot_after}
use Rattle.bus_frames.specs.declared.sending.Sending.{Sending}

-- the frames that were sent in the slot of a row, after the history before it, by the messages that the row tells
abbrev pub frames_sent : Medl → Script → List Entry → History → List SentFrame
frames_sent list script row before =
    frames_in (slot_after list script before) (messages_of list script (length before) row)

-- the header of the frame that a node of this past sends by what it does: a cold start, or of the kind that the list
-- gives its slot
abbrev pub header_by : Medl → NodePast → Act → ℕ
header_by list past Start = cold_start_header
header_by list past _ = header_of (kind_at list (coming_place list past).round (coming_place list past).slot)

-- how many bytes of payload it carries
abbrev pub size_by : Medl → NodePast → Act → ℕ
size_by list past Start = 0
size_by list past _ = payload_length list (coming_place list past).round (coming_place list past).slot

-- the C-state with which node k sends it
abbrev pub state_by : Medl → ℕ → NodePast → Act → CState
state_by list k past Start = cold_start_cstate k
state_by list k past _ = own_cstate list k past

-- what node k sends in a slot that has begun, if it sends
abbrev pub sending_in : BegunSlot → ℕ → Sending
sending_in s k =
    let node = node_of s k in
    record {
      node = k;
      header = header_by s.list node.past node.act;
      size = size_by s.list node.past node.act;
      state = state_by s.list k node.past node.act;
      clock = node.clock;
    }
