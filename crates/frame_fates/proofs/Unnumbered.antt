-- The number in a node's newest entry decides nothing: what nodes do, send and note is the same without it.
use Rattle.std.proofs.Common.{◌≡◌, ℕ, ◌-ℤ◌, ◌+ℤ◌, ◌&&◌, Bool, true, false, cond, List, length, Some}
use Rattle.std.proofs.Common.{None, refl, ap, sym, ◌∙◌}
use Rattle.std.specs.Prelude.{map, filter}
use Rattle.std.specs.List.{flat_map}
use Rattle.std.proofs.Math.ListN.{get_or-map}
use Rattle.std.proofs.lemmas.List.{length-map}
use Rattle.ttp_base.specs.NodeSet.{below}
use Rattle.ttp_world.specs.declared.medl.Medl.{Medl}
use Rattle.ttp_world.specs.declared.node.Act.{Act}
use Rattle.ttp_world.specs.declared.node.Act.TheVariants.{Send}
use Rattle.ttp_world.specs.declared.node.Chosen.{Chosen}
use Rattle.ttp_world.specs.declared.node.Delivered.{Delivered}
use Rattle.ttp_world.specs.declared.node.Entry.{Entry}
use Rattle.ttp_world.specs.declared.node.Entry.TheVariants as entry
use Rattle.ttp_world.specs.declared.node.Phase.{Phase}
use Rattle.ttp_world.specs.declared.node.Phase.TheVariants as phase
use Rattle.ttp_world.specs.declared.script.Script.{Script}
use Rattle.ttp_world.specs.Acknowledgement.{is_correct}
use Rattle.ttp_world.specs.Act.{coming_place, phase_act, act}
use Rattle.ttp_world.specs.After.{past_after}
use Rattle.ttp_world.specs.Conduct.{carries_payload, node_frames, new_entry, delivery}
use Rattle.ttp_world.specs.Diary.{SlotSurroundings, entry_of}
use Rattle.ttp_world.specs.Medium.{SentFrame, is_sending, is_silent_to, sender_only, senders_in, surroundings_in}
use Rattle.ttp_world.specs.Past.{NodePast}
use Rattle.ttp_world.specs.Reception.{Hearing}
use Rattle.ttp_world.specs.Script.{jump_of, drift_of, reading_error, is_on, is_armed}
use Rattle.ttp_world.specs.World.{BegunNode, BegunSlot, jump_taken, begun_node, no_node, node_of, sends_payload}
use Rattle.ttp_world.specs.World.{is_loaded, chosen_of, frames_of, frames_in}
use Rattle.ttp_world.specs.World.{deviation_in, hearing_in, entry_in, row_in}
use Rattle.frame_fates.specs.Alike.{unnumbered, unnumbered_row, unnumbered_past, sender_delivered}

-- One node.

act-unnumbered : (list : Medl) (k : ℕ) (on armed : Bool) (past : NodePast)
    → act list k on armed (unnumbered_past past) ≡ act list k on armed past
act-unnumbered list k on armed past = by past.phase
  where
    by : (p : Phase) → phase_act p list k on armed (unnumbered_past past) ≡ phase_act p list k on armed past
    by phase.Off = refl
    by _ = refl

node_frames-unnumbered : (list : Medl) (k : ℕ) (past : NodePast) (chosen : Chosen) (does : Act)
    → node_frames list k (unnumbered_past past) chosen does ≡ node_frames list k past chosen does
node_frames-unnumbered list k past chosen Send = refl
node_frames-unnumbered list k past chosen _ = refl

sends_payload-unnumbered : (list : Medl) (past : NodePast) (does : Act)
    → sends_payload list (unnumbered_past past) does ≡ sends_payload list past does
sends_payload-unnumbered list past Send = refl
sends_payload-unnumbered list past _ = refl

new_entry-unnumbered : (list : Medl) (k : ℕ) (past : NodePast) (chosen : Chosen) (h : Hearing) (does : Act)
    → new_entry list k (unnumbered_past past) chosen h does ≡ new_entry list k past chosen h does
new_entry-unnumbered list k past chosen h Send = refl
new_entry-unnumbered list k past chosen h _ = refl

pub past_after-unnumbered : (list : Medl) (k : ℕ) (past : NodePast) (e : Entry) (s : SlotSurroundings)
    → unnumbered_past (past_after list k past e s)
    ≡ unnumbered_past (past_after list k (unnumbered_past past) (unnumbered e) s)
past_after-unnumbered list k past (entry.Sent message) s = refl
past_after-unnumbered list k past _ s = refl

-- what it delivers comes from the same sender, whatever it heard
sender_if : (b : Bool) (d e : Delivered) → d.sender ≡ e.sender
    → sender_delivered (cond b (Some d) None) ≡ sender_delivered (cond b (Some e) None)
sender_if true d e same = ap Some same
sender_if false d e same = refl

pub delivery-unnumbered : (list : Medl) (k : ℕ) (past : NodePast) (h g : Hearing) (e : Entry)
    → sender_delivered (delivery list k past h e)
    ≡ sender_delivered (delivery list k (unnumbered_past past) g (unnumbered e))
delivery-unnumbered list k past h g (entry.Judged sender v deviation) =
    sender_if (is_correct v && carries_payload list (coming_place list past)) _ _ refl
delivery-unnumbered list k past h g _ = refl

-- A row: who sent in it.

pub entry_of-unnumbered : (row : List Entry) (k : ℕ) → entry_of (unnumbered_row row) k ≡ unnumbered (entry_of row k)
entry_of-unnumbered row k = get_or-map unnumbered row k entry.Off

pub is_sending-unnumbered : (e : Entry) → is_sending (unnumbered e) ≡ is_sending e
is_sending-unnumbered (entry.Sent message) = refl
is_sending-unnumbered _ = refl

senders_in-unnumbered : (row : List Entry) → senders_in (unnumbered_row row) ≡ senders_in row
senders_in-unnumbered row =
    let sends : (k : ℕ) → is_sending (entry_of (unnumbered_row row) k) ≡ is_sending (entry_of row k) =
    λ k. ap is_sending (entry_of-unnumbered row k) ∙ is_sending-unnumbered (entry_of row k) in
    λ i. map sender_only (filter (λ k. sends k i) (below (length-map row unnumbered i)))

pub surroundings_in-unnumbered : (script : Script) (slot : ℕ) (row : List Entry) (k : ℕ)
    → surroundings_in script slot (unnumbered_row row) k ≡ surroundings_in script slot row k
surroundings_in-unnumbered script slot row k = λ i. record {
  jump = jump_of script k slot;
  drift = drift_of script k;
  is_silent = is_silent_to script slot k (senders_in-unnumbered row i);
}

-- A slot that has begun.

abbrev pub unnumbered_node : BegunNode → BegunNode
unnumbered_node node = record { past = unnumbered_past node.past; act = node.act; clock = node.clock }

abbrev pub unnumbered_slot : BegunSlot → BegunSlot
unnumbered_slot s = record {
  list = s.list;
  script = s.script;
  number = s.number;
  nodes = map unnumbered_node s.nodes;
}

-- a node of it, by its past
pub begun_node-unnumbered : (list : Medl) (script : Script) (number : ℕ) (past : NodePast) (k : ℕ)
    → unnumbered_node (begun_node list script number past k)
    ≡ begun_node list script number (unnumbered_past past) k
begun_node-unnumbered list script number past k =
    let does = sym (act-unnumbered list k (is_on script k number) (is_armed script k number) past) in λ i. record {
      past = unnumbered_past past;
      act = does i;
      clock = past.offset +ℤ jump_taken (does i) (jump_of script k number);
    }

pub node_of-unnumbered : (s : BegunSlot) (k : ℕ) → node_of (unnumbered_slot s) k ≡ unnumbered_node (node_of s k)
node_of-unnumbered s k = get_or-map unnumbered_node s.nodes k (no_node s.list)

pub is_loaded-unnumbered : (s : BegunSlot) (k : ℕ) → is_loaded (unnumbered_slot s) k ≡ is_loaded s k
is_loaded-unnumbered s k =
    ap (λ (node : BegunNode). sends_payload s.list node.past node.act) (node_of-unnumbered s k)
    ∙ sends_payload-unnumbered s.list (node_of s k).past (node_of s k).act

frames_in-unnumbered : (s : BegunSlot) (chosen : List Chosen)
    → frames_in (unnumbered_slot s) chosen ≡ frames_in s chosen
frames_in-unnumbered s chosen =
    let each : (k : ℕ) → frames_of (unnumbered_slot s) chosen k ≡ frames_of s chosen k = λ k.
    ap (λ (node : BegunNode). node_frames s.list k node.past (chosen_of chosen k) node.act) (node_of-unnumbered s k)
    ∙ node_frames-unnumbered s.list k (node_of s k).past (chosen_of chosen k) (node_of s k).act in
    λ i. flat_map (λ k. each k i) (below (length s.list.slots))

deviation_in-unnumbered : (s : BegunSlot) (r : ℕ) → deviation_in (unnumbered_slot s) r ≡ deviation_in s r
deviation_in-unnumbered s r = λ i p.
    ((node_of-unnumbered s p i).clock -ℤ (node_of-unnumbered s r i).clock) +ℤ reading_error s.script r s.number

entry_in-unnumbered : (s : BegunSlot) (chosen : List Chosen) (frames : List SentFrame) (k : ℕ)
    → entry_in (unnumbered_slot s) chosen frames k ≡ entry_in s chosen frames k
entry_in-unnumbered s chosen frames k =
    (λ i. new_entry s.list k (node_of-unnumbered s k i).past (chosen_of chosen k)
    (record {
      a = (hearing_in s frames k).a;
      b = (hearing_in s frames k).b;
      deviation = deviation_in-unnumbered s k i;
    }) (node_of-unnumbered s k i).act)
    ∙ new_entry-unnumbered s.list k (node_of s k).past (chosen_of chosen k) (hearing_in s frames k) (node_of s k).act

-- ends with the same row
pub row_in-unnumbered : (s : BegunSlot) (chosen : List Chosen) → row_in (unnumbered_slot s) chosen ≡ row_in s chosen
row_in-unnumbered s chosen =
    ap (λ (frames : List SentFrame). map (entry_in (unnumbered_slot s) chosen frames) (below (length s.list.slots)))
    (frames_in-unnumbered s chosen)
    ∙ (λ i. map (λ k. entry_in-unnumbered s chosen (frames_in s chosen) k i) (below (length s.list.slots)))
