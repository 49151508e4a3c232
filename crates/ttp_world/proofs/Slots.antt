-- A slot that has begun, node by node, and its row, entry by entry.
use Rattle.ttp_world.proofs.Words.{◌≡◌, ℕ, ◌<◌, List, length, subst, ap, sym, ◌∙◌, arith, get_or-map-range_with_len}
use Rattle.ttp_world.proofs.Words.{length-map-range_with_len, Medl, Chosen, Entry, Script, new_entry, History, entry_of}
use Rattle.ttp_world.proofs.Words.{BegunSlot, slot_after, node_of, chosen_of, frames_in, hearing_in, entry_in, row_in}
use Rattle.ttp_world.specs.declared.node.Entry.TheVariants as entry
use Rattle.ttp_world.specs.World.{BegunNode, node_after, no_node}
use Rattle.ttp_world.proofs.EntriesMade.{HoldOfEntries, new_entry-holds}

-- each node of the slot after a history
pub node_of-slot_after : (list : Medl) (script : Script) (history : History) (k : ℕ) → k < length list.slots
    → node_of (slot_after list script history) k ≡ node_after list script history k
node_of-slot_after list script history k node =
    get_or-map-range_with_len (node_after list script history) 0 (length list.slots) k k (no_node list) node
    (omega arith)

-- a row has one entry for each node of the list
pub length-row_in : (s : BegunSlot) (chosen : List Chosen) → length (row_in s chosen) ≡ length s.list.slots
length-row_in s chosen = length-map-range_with_len (entry_in s chosen (frames_in s chosen)) 0 (length s.list.slots)

-- and each is the one that the node makes
pub entry_of-row_in : (s : BegunSlot) (chosen : List Chosen) (k : ℕ) → k < length s.list.slots
    → entry_of (row_in s chosen) k ≡ entry_in s chosen (frames_in s chosen) k
entry_of-row_in s chosen k node =
    get_or-map-range_with_len (entry_in s chosen (frames_in s chosen)) 0 (length s.list.slots) k k entry.Off node
    (omega arith)

-- the entry of a node in the slot after a history is the one that it makes, by what it does there
pub entry_of-row_after : (list : Medl) (script : Script) (history : History) (chosen : List Chosen) (k : ℕ)
    → k < length list.slots
    → entry_of (row_in (slot_after list script history) chosen) k
    ≡ new_entry list k (node_after list script history k).past (chosen_of chosen k)
    (hearing_in (slot_after list script history) (frames_in (slot_after list script history) chosen) k)
    (node_after list script history k).act
entry_of-row_after list script history chosen k node =
    let s = slot_after list script history in
    entry_of-row_in s chosen k node
    ∙ ap (λ (n : BegunNode).
    new_entry list k n.past (chosen_of chosen k) (hearing_in s (frames_in s chosen) k) n.act)
    (node_of-slot_after list script history k node)

-- What holds of every entry that a node may make holds of the one in the row.

pub entry_of-row_after-holds : (P : Entry → Type 0) (list : Medl) (script : Script) (history : History)
    (chosen : List Chosen) (k : ℕ)
    → k < length list.slots
    → HoldOfEntries P list k (node_after list script history k).past (chosen_of chosen k)
    → P (entry_of (row_in (slot_after list script history) chosen) k)
entry_of-row_after-holds P list script history chosen k node all =
    let s = slot_after list script history in
    let n = node_after list script history k in
    subst P (sym (entry_of-row_after list script history chosen k node))
    (new_entry-holds P list k n.past (chosen_of chosen k) (hearing_in s (frames_in s chosen) k) n.act all)
