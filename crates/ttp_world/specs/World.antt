-- The world: what a cluster does, slot by slot.
--
-- A history is all that there is. From it, the list and the script a slot begins: what each node does, its past and its
-- clock, in which there is no choice. By the messages that the nodes are to send, frames are sent and heard, and the
-- slot ends with one more entry in each node's diary.
use Rattle.std.specs.Prelude.{ℕ, ℤ, pos, ◌+ℤ◌, ◌-ℤ◌, Bool, false, List, [], ◌∷◌, map, length, get_or, flat_map}
use Rattle.std.specs.Prelude.{Option, None}
use Rattle.ttp_base.specs.NodeSet.{below}
use Rattle.ttp_world.specs.declared.medl.Medl.{Medl}
use Rattle.ttp_world.specs.declared.node.Chosen.{Chosen}
use Rattle.ttp_world.specs.declared.node.Delivered.{Delivered}
use Rattle.ttp_world.specs.declared.node.Entry.{Entry}
use Rattle.ttp_world.specs.declared.script.Channel.TheVariants as channel
use Rattle.ttp_world.specs.declared.script.Script.{Script}
use Rattle.ttp_world.specs.declared.node.Act.{Act}
use Rattle.ttp_world.specs.declared.node.Act.TheVariants.{Off, Send}
use Rattle.ttp_world.specs.Act.{act, coming_place}
use Rattle.ttp_world.specs.Conduct.{carries_payload, node_frames, new_entry, delivery}
use Rattle.ttp_world.specs.Diary.{History, diary_of}
use Rattle.ttp_world.specs.Medium.{SentFrame, heard, surroundings_of}
use Rattle.ttp_world.specs.Outgoing.{nothing_chosen, message_chosen}
use Rattle.ttp_world.specs.Past.{NodePast, past_of, no_past}
use Rattle.ttp_world.specs.Reception.{Hearing}
use Rattle.ttp_world.specs.Script.{is_on, is_armed, jump_of, reading_error}

-- The slot begins.

-- The jumps of a slot move the clock of a node that isn't off.
abbrev pub jump_taken : Act → ℤ → ℤ
jump_taken Off jump = pos 0
jump_taken _ jump = jump

-- A node in a slot that has begun: its past, what it does, and its clock at the beginning, with the slot's jumps.
pub record BegunNode : Type 0 where
  pub past : NodePast
  pub act : Act
  pub clock : ℤ

-- A slot that has begun: its list and script, its number, which is how many slots were before it, and its nodes.
pub record BegunSlot : Type 0 where
  pub list : Medl
  pub script : Script
  pub number : ℕ
  pub nodes : List BegunNode

-- node k in a slot of this number, by its past
abbrev pub begun_node : Medl → Script → ℕ → NodePast → ℕ → BegunNode
begun_node list script number past k =
    let does = act list k (is_on script k number) (is_armed script k number) past in
    record { past = past; act = does; clock = past.offset +ℤ jump_taken does (jump_of script k number) }

-- what is read of node k's past in a history
abbrev pub node_past : Medl → Script → History → ℕ → NodePast
node_past list script history k = past_of list k (diary_of history k) (surroundings_of script history k)

-- node k in the slot after a history, and the slot
abbrev pub node_after : Medl → Script → History → ℕ → BegunNode
node_after list script history k = begun_node list script (length history) (node_past list script history k) k

abbrev pub slot_after : Medl → Script → History → BegunSlot
slot_after list script history = record {
  list = list;
  script = script;
  number = length history;
  nodes = map (node_after list script history) (below (length list.slots));
}

-- the node that is read of a slot that has none
abbrev pub no_node : Medl → BegunNode
no_node list = record { past = no_past list 0; act = Off; clock = pos 0 }

-- node k of a slot that has begun
abbrev pub node_of : BegunSlot → ℕ → BegunNode
node_of s k = get_or s.nodes k (no_node s.list)

-- a node of this past that does this sends a frame with payload
abbrev pub sends_payload : Medl → NodePast → Act → Bool
sends_payload list past Send = carries_payload list (coming_place list past)
sends_payload list past _ = false

-- so node k does in the slot: its frame carries a message
abbrev pub is_loaded : BegunSlot → ℕ → Bool
is_loaded s k = sends_payload s.list (node_of s k).past (node_of s k).act

-- Frames are sent, by the messages that are chosen, and heard.

-- the message that is chosen for node k
abbrev pub chosen_of : List Chosen → ℕ → Chosen
chosen_of chosen k = get_or chosen k nothing_chosen

-- the frame that node k sends in a slot that has begun, if it sends one, by the messages that are chosen
abbrev pub frames_of : BegunSlot → List Chosen → ℕ → List SentFrame
frames_of s chosen k = node_frames s.list k (node_of s k).past (chosen_of chosen k) (node_of s k).act

-- the frames that all nodes send in it, in the order of the nodes
abbrev pub frames_in : BegunSlot → List Chosen → List SentFrame
frames_in s chosen = flat_map (frames_of s chosen) (below (length s.list.slots))

-- the deviation that node r measures of a frame of node p, by both clocks and its reading errors
abbrev pub deviation_in : BegunSlot → ℕ → ℕ → ℤ
deviation_in s r p = ((node_of s p).clock -ℤ (node_of s r).clock) +ℤ reading_error s.script r s.number

-- what node r hears where these frames are sent
abbrev pub hearing_in : BegunSlot → List SentFrame → ℕ → Hearing
hearing_in s frames r = record {
  a = heard s.script s.number r channel.A frames;
  b = heard s.script s.number r channel.B frames;
  deviation = deviation_in s r;
}

-- The slot ends.

-- the entry of node k where these frames are sent
abbrev pub entry_in : BegunSlot → List Chosen → List SentFrame → ℕ → Entry
entry_in s chosen frames k =
    let node = node_of s k in
    new_entry s.list k node.past (chosen_of chosen k) (hearing_in s frames k) node.act

-- the entries of all nodes
abbrev pub entries_in : BegunSlot → List Chosen → List SentFrame → List Entry
entries_in s chosen frames = map (entry_in s chosen frames) (below (length s.list.slots))

-- the row of the slot's entries, by the messages that are chosen
abbrev pub row_in : BegunSlot → List Chosen → List Entry
row_in s chosen = entries_in s chosen (frames_in s chosen)

-- what node r delivers where these frames are sent, by the entry that it makes
abbrev pub delivered_in : BegunSlot → List SentFrame → ℕ → Entry → Option Delivered
delivered_in s frames r e = delivery s.list r (node_of s r).past (hearing_in s frames r) e

-- a history with the row of one slot more
abbrev pub step : Medl → Script → History → List Chosen → History
step list script history chosen = row_in (slot_after list script history) chosen ∷ history

-- The run.

-- The numbers of one slot: for each node that of the message in its frame, if the frame has payload, and one for each
-- read line in the order of the script.
pub record SlotNumbers : Type 0 where
  pub sent : List (Option ℕ)
  pub read : List ℕ

-- the newest slot's first
abbrev pub Numbers : Type 0
Numbers = List SlotNumbers

-- the messages of all nodes that have these numbers by the end of a slot
abbrev pub messages_chosen : Medl → Script → ℕ → List (Option ℕ) → List Chosen
messages_chosen list script slot sent =
    map (λ k. message_chosen list script slot k (get_or sent k None)) (below (length list.slots))

-- the world after as many slots as there are numbers
abbrev pub world : Medl → Script → Numbers → History
world list script [] = []
world list script (new ∷ numbers) =
    step list script (world list script numbers) (messages_chosen list script (length numbers) new.sent)
