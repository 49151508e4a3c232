-- Which nodes have a line on a channel.
use Rattle.std.proofs.Common.{◌≡◌, ℕ, ◌<◌, Bool, true, false, cond, List, []}
use Rattle.std.proofs.Common.{◌∷◌, length, map, refl, ap, sym, subst, ◌∙◌}
use Rattle.std.specs.Prelude.{◌&&◌, not}
use Rattle.ttp_world.specs.declared.medl.Medl.{Medl}
use Rattle.ttp_world.specs.declared.node.Chosen.{Chosen}
use Rattle.ttp_world.specs.declared.node.Entry.{Entry}
use Rattle.ttp_world.specs.declared.script.Channel.{Channel}
use Rattle.ttp_world.specs.declared.script.Fault.TheVariants as fault
use Rattle.ttp_world.specs.declared.script.Script.{Script}
use Rattle.ttp_world.specs.After.{past_after}
use Rattle.ttp_world.specs.Diary.{History, entry_of}
use Rattle.ttp_world.specs.Medium.{SentFrame, is_sending, remaining_frames, surroundings_in}
use Rattle.ttp_world.specs.Medl.{IsValid}
use Rattle.ttp_world.specs.Membership.{AreNodes}
use Rattle.ttp_world.specs.Messages.{messages_of}
use Rattle.ttp_world.specs.Past.{NodePast}
use Rattle.ttp_world.specs.Script.{has_send_fault}
use Rattle.ttp_world.specs.World.{BegunNode, chosen_of, frames_in, hearing_in, node_of, node_past}
use Rattle.ttp_world.specs.World.{row_in, slot_after}
use Rattle.ttp_world.proofs.NextPasts.{node_past-next}
use Rattle.ttp_world.proofs.Slots.{entry_of-row_in, node_of-slot_after}
use Rattle.bus_frames.specs.FrameText.{bus_line}
use Rattle.bus_frames.specs.Sending.{sending_in}
use Rattle.bus_frames.specs.Standing.{frame_with, frames_told, lines_of_node, payload_with}
use Rattle.frame_laws.proofs.FromBelow.{ActsBy, acts-by, frames-sent, sends, sends-by, silent-by, members-nodes}
use Rattle.frame_laws.proofs.FromBelow.{state_after, state-by}

module _ (list : Medl) (script : Script) (before : History)
    (chosen : List Chosen) (k : ℕ) (node : k < length list.slots)
  where
    abbrev row : List Entry
    row = row_in (slot_after list script before) chosen

    pub acts : ActsBy (node_of (slot_after list script before) k).act
        (frames_told list script (row_in (slot_after list script before) chosen) before k)
        (entry_of (row_in (slot_after list script before) chosen) k)
    acts =
        let s = slot_after list script before in
        let told = messages_of list script (length before) row in
        subst (ActsBy (node_of s k).act (frames_told list script row before k)) (sym (entry_of-row_in s chosen k node))
        (acts-by list k (node_of s k).past (chosen_of chosen k) (chosen_of told k)
        (hearing_in s (frames_in s chosen) k) (node_of s k).act)

    pub sending : is_sending (entry_of (row_in (slot_after list script before) chosen) k) ≡ true
        → sends (node_of (slot_after list script before) k).act ≡ true
    sending is =
        sends-by (node_of (slot_after list script before) k).act (frames_told list script row before k) (entry_of row k)
        acts is

    -- the frame of a node that sends
    pub frame-told : is_sending (entry_of (row_in (slot_after list script before) chosen) k) ≡ true
        → frames_told list script (row_in (slot_after list script before) chosen) before k
        ≡ record {
          sender = k;
          bytes = frame_with list (sending_in (slot_after list script before) k)
              (payload_with (sending_in (slot_after list script before) k)
              (chosen_of (messages_of list script (length before) (row_in (slot_after list script before) chosen)) k));
        } ∷ []
    frame-told is =
        frames-sent (slot_after list script before) (messages_of list script (length before) row) k (sending is)

    -- a node has one line or none
    counted : (c : Channel) (there : List SentFrame) (b : Bool)
        → is_sending (entry_of (row_in (slot_after list script before) chosen) k) ≡ b
        → length (lines_of_node list script (row_in (slot_after list script before) chosen) before c there k)
        ≡ cond (b && not (has_send_fault script fault.Silence k c (length before))) 1 0
    counted c there true is =
        ap (λ (fs : List SentFrame). length (map (bus_line list script before c there)
        (remaining_frames script (length before) c fs))) (frame-told is)
        ∙ kept (not (has_send_fault script fault.Silence k c (length before))) _ (bus_line list script before c there)
      where
        kept : (b : Bool) (sent : SentFrame) (line : SentFrame → List ℕ)
            → length (map line (cond b (sent ∷ []) [])) ≡ cond b 1 0
        kept true sent line = refl
        kept false sent line = refl
    counted c there false is =
        ap (λ (fs : List SentFrame). length (map (bus_line list script before c there)
        (remaining_frames script (length before) c fs)))
        (silent-by (node_of (slot_after list script before) k).act
        (frames_told list script row before k) (entry_of row k)
        acts is)

    pub line-counted : (c : Channel) (there : List SentFrame)
        → length (lines_of_node list script (row_in (slot_after list script before) chosen) before c there k)
        ≡ cond (is_sending (entry_of (row_in (slot_after list script before) chosen) k)
        && not (has_send_fault script fault.Silence k c (length before))) 1 0
    line-counted c there = counted c there (is_sending (entry_of row k)) refl

    -- the C-state with which a node sends is the one that it holds after the slot
    pub state-kept : IsValid list → is_sending (entry_of (row_in (slot_after list script before) chosen) k) ≡ true
        → (sending_in (slot_after list script before) k).state
        ≡ state_after (node_past list script (row_in (slot_after list script before) chosen ∷ before) k)
    state-kept valid is =
        let here = node_of-slot_after list script before k node in
        let outside = surroundings_in script (length before) row k in
        sym (ap state_after (node_past-next list script before chosen k node)
        ∙ ap (λ (p : NodePast). state_after (past_after list k p (entry_of row k) outside))
        (ap (λ (n : BegunNode). n.past) (sym here))
        ∙ state-by list k (node_of (slot_after list script before) k).past outside valid node
        (subst (λ (n : BegunNode). AreNodes list n.past.members) (sym here) (members-nodes list script before k))
        (node_of (slot_after list script before) k).act (frames_told list script row before k) (entry_of row k) acts is)
