-- What stands where the lines of a slot are written.
use Rattle.std.specs.Prelude.{◌≡◌, ℕ, ◌+◌, ◌^◌, ◌<◌, ◌≤◌, ℤ, pos, unsigned_abs, List}
use Rattle.std.specs.Prelude.{length, get_or, Option, Some, None, if◌then◌else◌}
use Rattle.std.specs.Prelude.{◌==◌, [], map, Bool, nat_le}
use Rattle.ttp_base.specs.NodeSet.{set_bits}
use Rattle.ttp_base.specs.Text.{Lines}
use Rattle.ttp_world.specs.declared.medl.Medl.{Medl}
use Rattle.ttp_world.specs.declared.node.CState.{CState}
use Rattle.ttp_world.specs.declared.node.Chosen.{Chosen}
use Rattle.ttp_world.specs.declared.node.Entry.{Entry}
use Rattle.ttp_world.specs.declared.node.Entry.TheVariants as entry
use Rattle.ttp_world.specs.declared.script.Channel.{Channel}
use Rattle.ttp_world.specs.declared.script.Script.{Script}
use Rattle.ttp_world.specs.Act.{coming_place}
use Rattle.ttp_world.specs.Diary.{History, entry_of, time_limit}
use Rattle.ttp_world.specs.Fitting.{carried_length}
use Rattle.ttp_world.specs.Frame.{cold_start_header, frame, header_of}
use Rattle.ttp_world.specs.Medium.{SentFrame, is_sending, remaining_frames}
use Rattle.ttp_world.specs.Medl.{is_wide, kind_at, member_limit, member_width, payload_length}
use Rattle.ttp_world.specs.Messages.{messages_of}
use Rattle.ttp_world.specs.World.{chosen_of, frames_of, node_past, slot_after}
use Rattle.medium.specs.declared.arrival.Arrival.{Arrival}
use Rattle.medium.specs.declared.arrival.Arrival.TheVariants as arrival
use Rattle.controller.specs.PlantStands.{PlantStandsFor}
use Rattle.controller.specs.PlantView.{PlantView}
use Rattle.ttp_frame.specs.Shape.{IsFrameShape, HaveRoom}
use Rattle.trace_run.specs.Run.{HasMade}
use Rattle.bus_frames.specs.declared.sending.Sending.{Sending}
use Rattle.bus_frames.specs.FrameText.{bus_line}
use Rattle.bus_frames.specs.Sending.{frames_sent, sending_in}

-- each part of a C-state has room in its bytes
pub record HasByteRoom (list : Medl) (c : CState) : Type 0 where
  pub time : c.time < time_limit
  pub round : c.round < 256
  pub slot : c.slot < 256
  pub members : set_bits c.members < member_limit list

-- Clocks.

-- these are the clocks of a list's nodes after a history
abbrev pub AreOffsets : List ℤ → Medl → Script → History → Type 0
AreOffsets offsets list script history =
    (k : ℕ) → k < length list.slots → get_or offsets k (pos 0) ≡ (node_past list script history k).offset

-- none is far from 0
abbrev pub AreNear : List ℤ → Type 0
AreNear offsets = (k : ℕ) → k < length offsets → unsigned_abs (get_or offsets k (pos 0)) ≤ 2 ^ 60

-- they are those that a plant shows
abbrev pub AreClocksShown : List ℤ → PlantView → Type 0
AreClocksShown offsets plant =
    (script : Script) (history : History) → PlantStandsFor plant script history
    → AreOffsets offsets plant.list script history

-- The slot.

-- A plant is past the slot of a row after a history, after which the clocks were these.
pub record SlotStands (plant : PlantView) (chosen : List Chosen) (offsets : List ℤ) (list : Medl) (script : Script)
    (slot : ℕ) (row : List Entry) (before : History) : Type 0 where
  pub made : HasMade plant chosen list script row before
  pub long : length before ≡ slot
  pub offsets_are : AreOffsets offsets list script before
  -- the place of the slot is one of the list, to each node
  pub round : (k : ℕ) → k < length list.slots → (coming_place list (node_past list script before k)).round < list.rounds
  pub place : (k : ℕ) → k < length list.slots
      → (coming_place list (node_past list script before k)).slot < length list.slots

-- a plant stands behind a slot of some history, with these messages and clocks
pub record IsSomeSlot (plant : PlantView) (chosen : List Chosen) (offsets : List ℤ) (list : Medl) (script : Script)
    (slot : ℕ) : Type 0 where
  pub row : List Entry
  pub before : History
  pub stands : SlotStands plant chosen offsets list script slot row before

-- a plant stands behind a slot of some history, with these clocks and some messages
pub record IsSomeChoice (plant : PlantView) (offsets : List ℤ) (list : Medl) (script : Script) (slot : ℕ) : Type 0 where
  pub chosen : List Chosen
  pub some : IsSomeSlot plant chosen offsets list script slot

-- a plant stands behind some slot of some script
pub record IsPastSlot (plant : PlantView) (list : Medl) : Type 0 where
  pub chosen : List Chosen
  pub offsets : List ℤ
  pub script : Script
  pub slot : ℕ
  pub some : IsSomeSlot plant chosen offsets list script slot

-- What a node has sent.

-- by its entry, its C-state and its clock
abbrev pub sending_by : Medl → ℕ → Entry → CState → ℤ → Option Sending
sending_by list k entry.Started state clock =
    Some (record { node = k; header = cold_start_header; size = 0; state = state; clock = clock })
sending_by list k (entry.Sent message) state clock = Some (record {
  node = k;
  header = header_of (kind_at list state.round state.slot);
  size = payload_length list state.round state.slot;
  state = state;
  clock = clock;
})
sending_by list k _ state clock = None

-- what node k has sent in the slot of a row, if it has
abbrev pub sending_told : Medl → Script → List Entry → History → ℕ → Option Sending
sending_told list script row before k =
    if is_sending (entry_of row k) then Some (sending_in (slot_after list script before) k) else None

-- a frame may be made of it
pub record IsSendable (list : Medl) (sending : Sending) : Type 0 where
  pub shape : IsFrameShape sending.header sending.size
  pub room : HaveRoom (is_wide list) sending.state.members

-- the payload that goes into its frame, of the message that was chosen
abbrev pub payload_with : Sending → Chosen → List ℕ
payload_with sending chosen = if sending.size == 0 then [] else chosen.payload

-- its frame, with this payload
abbrev pub frame_with : Medl → Sending → List ℕ → List ℕ
frame_with list sending payload = frame (member_width list) sending.header sending.state payload list.schedule

-- the frame of node k, if it has sent one
abbrev pub frames_told : Medl → Script → List Entry → History → ℕ → List SentFrame
frames_told list script row before k =
    frames_of (slot_after list script before) (messages_of list script (length before) row) k

-- the line of its frame, where it lies on a channel with these
abbrev pub lines_of_node : Medl → Script → List Entry → History → Channel → List SentFrame → ℕ → Lines
lines_of_node list script row before c there k =
    map (bus_line list script before c there)
    (remaining_frames script (length before) c (frames_told list script row before k))

-- the frames that lie on a channel in the slot of a row
abbrev pub frames_there : Medl → Script → List Entry → History → Channel → List SentFrame
frames_there list script row before c =
    remaining_frames script (length before) c (frames_sent list script row before)

-- A plant is past some slot of these clocks, where this is node k's, and where this says whether two frames or more lie
-- on a channel.
pub record IsSomePast (plant : PlantView) (list : Medl) (script : Script) (slot k : ℕ) (c : Channel) (meets : Bool)
    (offset : ℤ) : Type 0 where
  pub chosen : List Chosen
  pub offsets : List ℤ
  pub some : IsSomeSlot plant chosen offsets list script slot
  pub offset_is : offset ≡ get_or offsets k (pos 0)
  pub meets_is : meets ≡ nat_le 2 (length (frames_there list script some.row some.before c))

-- bits that came are as many as it has
abbrev pub IsAsLong : Medl → Sending → Arrival → Type 0
IsAsLong list sending (arrival.Bits bytes offset) =
    length bytes.now ≡ 1 + carried_length (member_width list) sending.header + sending.size + 3
IsAsLong list sending _ = Unit {0}
