-- A node in one slot: what it is before the slot, what the slot brings to it, and what it makes of it.
use Rattle.std.specs.Prelude.{ℕ, Bool, List}
use Rattle.ttp_world.specs.declared.medl.Medl.{Medl}
use Rattle.ttp_world.specs.declared.node.Act.{Act}
use Rattle.ttp_world.specs.declared.node.Chosen.{Chosen}
use Rattle.ttp_world.specs.declared.node.Entry.{Entry}
use Rattle.ttp_world.specs.declared.script.Script.{Script}
use Rattle.ttp_world.specs.Act as act
use Rattle.ttp_world.specs.After.{past_after}
use Rattle.ttp_world.specs.Conduct.{node_frames, new_entry}
use Rattle.ttp_world.specs.Diary.{History, SlotSurroundings, Place}
use Rattle.ttp_world.specs.Medium.{SentFrame, surroundings_in}
use Rattle.ttp_world.specs.Past.{NodePast}
use Rattle.ttp_world.specs.Reception.{Candidates, Hearing, expected_of}
use Rattle.ttp_world.specs.Script.{is_on, is_armed}
use Rattle.ttp_world.specs.World.{node_past, slot_after, chosen_of, frames_in, hearing_in, row_in}

-- a node of a list in one slot
pub record NodeSlot : Type 0 where
  pub list : Medl
  pub node : ℕ
  pub past : NodePast
  -- whether it is switched on by then, and armed in the slot
  pub on : Bool
  pub armed : Bool
  -- the message that is chosen for its frame
  pub chosen : Chosen
  pub hearing : Hearing
  -- what comes to its clock, and whether both channels are silent
  pub around : SlotSurroundings

-- node k in the slot after a history, with the messages that are chosen
abbrev pub node_slot : Medl → Script → History → List Chosen → ℕ → NodeSlot
node_slot list script history chosen k =
    let s = slot_after list script history in
    record {
      list = list;
      node = k;
      past = node_past list script history k;
      on = is_on script k s.number;
      armed = is_armed script k s.number;
      chosen = chosen_of chosen k;
      hearing = hearing_in s (frames_in s chosen) k;
      around = surroundings_in script s.number (row_in s chosen) k;
    }

-- What the node does, and what it sends.

-- what the node does in the slot
abbrev pub act_made : NodeSlot → Act
act_made x = act.act x.list x.node x.on x.armed x.past

-- the frame that it sends, if it sends one
abbrev pub frames_made : NodeSlot → List SentFrame
frames_made x = node_frames x.list x.node x.past x.chosen (act_made x)

-- Its entry, and its past after the slot.

-- the slot's entry of the node
abbrev pub entry_made : NodeSlot → Entry
entry_made x = new_entry x.list x.node x.past x.chosen x.hearing (act_made x)

-- the node's past after the slot
abbrev pub next_past : NodeSlot → NodePast
next_past x = past_after x.list x.node x.past (entry_made x) x.around

-- The slot by the C-state of an active node: its place, its owner, and what is expected of the owner's frame.

-- the place of the slot by the C-state of an active node
abbrev pub slot_place : NodeSlot → Place
slot_place x = act.coming_place x.list x.past

-- the node whose slot that is
abbrev pub owner_of : NodeSlot → ℕ
owner_of x = (slot_place x).slot

-- the memberships that are expected of that node's frame
abbrev pub candidates_of : NodeSlot → Candidates
candidates_of x = (expected_of x.list x.node x.past).candidates
