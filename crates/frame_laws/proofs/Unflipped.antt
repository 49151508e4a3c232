-- A frame of which no bit is flipped is a frame of the C-state with which it was sent.
use Rattle.std.proofs.Common.{◌≡◌, ℕ, ◌<◌, Bool, true, false, cond, List, []}
use Rattle.std.proofs.Common.{◌∷◌, length, codes, refl, ap, sym, subst, ◌∙◌}
use Rattle.std.proofs.Common.{suc, get_or, Option, Some, None, if◌then◌else◌, arith, true≢false}
use Rattle.std.specs.Prelude.{◌==◌}
use Rattle.std.proofs.lemmas.List.FromFn.{get_or-map-range_with_len}
use Rattle.ttp_world.specs.declared.medl.Medl.{Medl}
use Rattle.ttp_world.specs.declared.node.Act.TheVariants.{Send}
use Rattle.ttp_world.specs.declared.node.Chosen.{Chosen}
use Rattle.ttp_world.specs.declared.node.Entry.{Entry}
use Rattle.ttp_world.specs.declared.script.Channel.{Channel}
use Rattle.ttp_world.specs.declared.script.Script.{Script}
use Rattle.ttp_world.specs.Act.{coming_place}
use Rattle.ttp_world.specs.Diary.{History, entry_of}
use Rattle.ttp_world.specs.Fitting.{fits, is_formed}
use Rattle.ttp_world.specs.Legal.{IsLegal}
use Rattle.ttp_world.specs.Medium.{SentFrame, flip_bits, is_sending}
use Rattle.ttp_world.specs.Medl.{is_wide, member_width, plan_at}
use Rattle.ttp_world.specs.Messages.{messages_of}
use Rattle.ttp_world.specs.Outgoing.{message_chosen, nothing_chosen}
use Rattle.ttp_world.specs.Script.{IsValidScript, flipped_bits, is_armed, is_on}
use Rattle.ttp_world.specs.World.{BegunNode, Numbers, SlotNumbers, chosen_of, messages_chosen, node_of}
use Rattle.ttp_world.specs.World.{slot_after, world}
use Rattle.ttp_world.proofs.Carried.{messages_chosen-told}
use Rattle.ttp_world.proofs.HostMessages.{message_sizes}
use Rattle.ttp_world.proofs.LegalShapes.{legal-shapes}
use Rattle.ttp_world.proofs.Slots.{node_of-slot_after}
use Rattle.ttp_world.proofs.Worlds.{length-world, row_of_world}
use Rattle.ttp_frame.specs.Match.{match_of}
use Rattle.ttp_frame.specs.declared.judging.FrameMatch.{FrameMatch}
use Rattle.ttp_frame.specs.declared.judging.FrameMatch.TheVariants.{Match, Differs, Invalid}
use Rattle.frame_laws.proofs.FromBelow.{fits-frame, legal-names, sends-own, sends, loaded-by, long-payload, size-plan}
use Rattle.frame_fates.specs.Runs.{IsWritten}
use Rattle.controller.specs.ControllerWithin.{IsPossible}
use Rattle.bus_frames.specs.declared.sending.Sending.{Sending}
use Rattle.bus_frames.specs.FrameText.{found_word, match_word}
use Rattle.bus_frames.specs.Sending.{sending_in}
use Rattle.bus_frames.specs.Standing.{frame_with, frames_told, payload_with}
use Rattle.frame_laws.proofs.Nodes.{frame-told, sending}

-- a frame fits what its sender expects of it
match-fits : (fits : Bool) (other : FrameMatch) → fits ≡ true → cond fits Match other ≡ Match
match-fits true other is = refl
match-fits false other is = absurd (true≢false (sym is))

match-frame : (list : Medl) (sending : Sending) (payload : List ℕ) → length payload ≡ sending.size
    → match_of (is_wide list) (frame_with list sending payload) sending.header sending.size list.schedule sending.state
    ≡ Match
match-frame list sending payload long =
    let bytes = frame_with list sending payload in
    let width = member_width list in
    ap (λ n. match_of (is_wide list) bytes sending.header n list.schedule sending.state) (sym long)
    ∙ match-fits (fits width bytes sending.header (length payload) list.schedule sending.state)
    (if is_formed width bytes sending.header (length payload) list.schedule then Differs else Invalid)
    (fits-frame width sending.header sending.state payload list.schedule)

-- a message that a host has written is as long as the list says
told-size : (list : Medl) (script : Script) (slot k : ℕ) (told : Option ℕ) → IsValidScript list script
    → IsWritten list script slot k told
    → length (message_chosen list script slot k told).payload ≡ (plan_at list k).payload
told-size list script slot k None valid there = absurd there
told-size list script slot k (Some i) valid there = message_sizes list script k (suc slot) valid i [] there

module _ (list : Medl) (script : Script) (new : SlotNumbers) (numbers : Numbers)
    (valid_script : IsValidScript list script)
    (legal : IsLegal list script (new ∷ numbers)) (k : ℕ) (node : k < length list.slots) where
  abbrev before : History
  before = world list script numbers

  abbrev row : List Entry
  row = row_of_world list script new numbers

  -- the messages that the row tells are those of the numbers
  told-chosen : messages_of list script (length (world list script numbers)) (row_of_world list script new numbers)
      ≡ messages_chosen list script (length numbers) new.sent
  told-chosen =
      sym (ap (messages_chosen list script (length numbers)) (legal-shapes list script (new ∷ numbers) legal).0.sent
      ∙ messages_chosen-told list script (length numbers) row
      ∙ ap (λ slot. messages_of list script slot row) (sym (length-world list script numbers)))

  own : (node_of (slot_after list script before) k).act ≡ Send
      → (coming_place list (node_of (slot_after list script before) k).past).slot ≡ k
  own =
      sends-own list k (node_of (slot_after list script before) k).past (node_of (slot_after list script before) k).act
      (subst (λ (n : BegunNode). IsPossible list k n.past n.act) (sym (node_of-slot_after list script before k node))
      (record {
        on = is_on script k (length before);
        armed = is_armed script k (length before);
        is = refl;
      }))

  payload-long : is_sending (entry_of row k) ≡ true
      → length (payload_with (sending_in (slot_after list script before) k)
      (chosen_of (messages_of list script (length before) row) k))
      ≡ (sending_in (slot_after list script before) k).size
  payload-long is =
      let s = slot_after list script before in
      let n = node_of s k in
      let chosen = messages_chosen list script (length numbers) new.sent in
      let size = (sending_in s k).size in
      let acts : sends n.act ≡ true = sending list script before chosen k node is in
      let slot = length numbers in
      long-payload size (size == 0) (chosen_of (messages_of list script (length before) row) k).payload refl
      (λ some. ap (λ (cs : List Chosen). length (chosen_of cs k).payload) told-chosen
      ∙ ap (λ (c : Chosen). length c.payload)
      (get_or-map-range_with_len
      (λ j. message_chosen list script slot j (get_or new.sent j None)) 0 (length list.slots) k k
      nothing_chosen node (omega arith))
      ∙ told-size list script slot k (get_or new.sent k None) valid_script
      ((legal-names list script (new ∷ numbers) legal).0 k node (loaded-by list n.past n.act acts some))
      ∙ sym (size-plan list k n.past n.act acts some own))

  -- the word of the bytes on a channel
  pub word-match : is_sending (entry_of (row_of_world list script new numbers) k) ≡ true → (c : Channel)
      → flipped_bits script k c (length (world list script numbers)) ≡ [] → (sent : SentFrame)
      → frames_told list script (row_of_world list script new numbers) (world list script numbers) k ≡ sent ∷ []
      → found_word list (sending_in (slot_after list script (world list script numbers)) k)
      (flip_bits sent.bytes (flipped_bits script k c (length (world list script numbers)))) ≡ codes "match"
  word-match is c none sent told =
      let s = slot_after list script before in
      let chosen = messages_chosen list script (length numbers) new.sent in
      let payload = payload_with (sending_in s k) (chosen_of (messages_of list script (length before) row) k) in
      let same : sent ∷ [] ≡ record { sender = k; bytes = frame_with list (sending_in s k) payload } ∷ [] =
      sym told ∙ frame-told list script before chosen k node is in
      let sent_is : sent ≡ record { sender = k; bytes = frame_with list (sending_in s k) payload } = cc in
      ap (λ bits. found_word list (sending_in s k) (flip_bits sent.bytes bits)) none
      ∙ ap (λ (f : SentFrame). found_word list (sending_in s k) f.bytes) sent_is
      ∙ ap match_word (match-frame list (sending_in s k) payload (payload-long is))
