-- What is written of one node.
use Rattle.std.proofs.Common.{◌≡◌, ℕ, ◌+◌, ◌<◌, Bool, true, false, List, [], ◌∷◌, length, get_or, ap, sym, subst, ◌∙◌}
use Rattle.std.specs.Prelude.{ℤ, pos, ◌+ℤ◌, nat_le, not, Option, Some}
use Rattle.std.proofs.lemmas.Bool.{and_parts}
use Rattle.ttp_world.specs.declared.events.Incidents.{Incidents}
use Rattle.ttp_world.specs.declared.medl.Medl.{Medl}
use Rattle.ttp_world.specs.declared.node.Chosen.{Chosen}
use Rattle.ttp_world.specs.declared.node.Entry.{Entry}
use Rattle.ttp_world.specs.declared.script.Channel.{Channel}
use Rattle.ttp_world.specs.declared.script.Fault.TheVariants as fault
use Rattle.ttp_world.specs.declared.script.Script.{Script}
use Rattle.ttp_world.specs.Diary.{History, entry_of}
use Rattle.ttp_world.specs.Medium.{SentFrame, Signal, is_sending, signal_of}
use Rattle.ttp_world.specs.Fitting.{carried_length}
use Rattle.ttp_world.specs.Medl.{IsValid, member_width}
use Rattle.ttp_world.specs.Script.{has_send_fault, incidents_of}
use Rattle.ttp_world.specs.World.{chosen_of, node_of, slot_after}
use Rattle.controller.specs.PlantView.{PlantView}
use Rattle.medium.specs.declared.arrival.Arrival.{Arrival}
use Rattle.medium.specs.Shows.{Shows}
use Rattle.medium.specs.StandsFor.{ShowsCarried, sent_by}
use Rattle.ttp_frame.proofs.ForAbove.{length-frame}
use Rattle.bus_frames.specs.declared.sending.Sending.{Sending}
use Rattle.bus_frames.specs.FrameText.{frame_line}
use Rattle.bus_frames.specs.Sending.{frames_sent, sending_in}
use Rattle.bus_frames.specs.Standing.{IsAsLong, SlotStands, frame_with, frames_there}
use Rattle.bus_frames.specs.Standing.{lines_of_node, payload_with, sending_told}
use Rattle.bus_frames.proofs.Channels.{alone-signal, lies, one-line}
use Rattle.bus_frames.proofs.Parts.{long-shown}
use Rattle.bus_frames.proofs.Told.{clock-is, payload-long, told-is}

module _ (plant : PlantView) (all : List Chosen) (offsets : List ℤ) (list : Medl) (script : Script) (slot : ℕ)
    (row : List Entry) (before : History) (stands : SlotStands plant all offsets list script slot row before)
    (valid : IsValid list) (k : ℕ) (node : k < length list.slots) (c : Channel)
    (lying : lies script slot c row k ≡ true) where
  sent : is_sending (entry_of row k) ≡ true
  sent = (and_parts (is_sending (entry_of row k)) (not (has_send_fault script fault.Silence k c slot)) lying).0

  -- what is told of the node
  pub got : (offset off clock : ℤ) (i : Incidents) (result : Option Sending) → offset ≡ get_or offsets k (pos 0)
      → off ≡ offset → i ≡ incidents_of script k slot → clock ≡ off +ℤ i.jump
      → (clock ≡ (node_of (slot_after list script before) k).clock → result ≡ sending_told list script row before k)
      → result ≡ Some (sending_in (slot_after list script before) k)
  got offset off clock i result offset_is off_is i_is clock_is told =
      told-is plant all offsets list script slot row before stands valid k node sent result
      (told (clock_is ∙ clock-is plant all offsets list script slot row before stands valid k node sent off i.jump
      (off_is ∙ offset_is) (ap (λ (i : Incidents). i.jump) i_is)))

  -- its frame, as it was sent
  abbrev pub frame-sent : SentFrame
  frame-sent =
      let sending = sending_in (slot_after list script before) k in
      sent_by k (frame_with list sending (payload_with sending (chosen_of all k)))

  -- what the medium shows of the channel, where no two frames lie there
  pub shown-alone : (there : Arrival) → ShowsCarried plant.carried c there
      → nat_le 2 (length (frames_there list script row before c)) ≡ false
      → Shows there (signal_of script (length before) c frame-sent)
      (λ p. (node_of (slot_after list script before) p).clock)
  shown-alone there shows few =
      subst (λ s. Shows there s (λ p. (node_of (slot_after list script before) p).clock))
      (alone-signal plant all offsets list script slot row before stands valid k node c lying few)
      (shows script (length before) (frames_sent list script row before)
      (λ p. (node_of (slot_after list script before) p).clock) stands.made.carries)

  -- it is as long as the node's frame
  pub long-alone : (there : Arrival) (sending : Sending) → ShowsCarried plant.carried c there
      → nat_le 2 (length (frames_there list script row before c)) ≡ false
      → sending ≡ sending_in (slot_after list script before) k → IsAsLong list sending there
  long-alone there sending shows few same =
      let own = sending_in (slot_after list script before) k in
      subst (λ s. IsAsLong list s there) (sym same)
      (long-shown list own script (length before) c frame-sent there
      (λ p. (node_of (slot_after list script before) p).clock)
      (shown-alone there shows few)
      (length-frame (member_width list) own.header own.state (payload_with own (chosen_of all k)) list.schedule
      ∙ ap (λ n. 1 + carried_length (member_width list) own.header + n + 3)
      (payload-long plant all offsets list script slot row before stands valid k node sent)))

  -- its line
  pub line-of : (there : Arrival) (meets : Bool) (sending : Sending) (line : List ℕ)
      → ShowsCarried plant.carried c there
      → sending ≡ sending_in (slot_after list script before) k
      → meets ≡ nat_le 2 (length (frames_there list script row before c))
      → ((s : Signal) (clock : ℕ → ℤ) → (meets ≡ false → Shows there s clock) → line
      ≡ frame_line list slot c sending meets s)
      → lines_of_node list script row before c (frames_there list script row before c) k ≡ line ∷ []
  line-of there meets sending line shows same meets_is line_is =
      one-line plant all offsets list script slot row before stands valid k node c meets line lying meets_is
      (line_is (signal_of script (length before) c frame-sent) (λ p. (node_of (slot_after list script before) p).clock)
      (λ few. shown-alone there shows (sym meets_is ∙ few))
      ∙ ap (λ s. frame_line list slot c s meets (signal_of script (length before) c frame-sent)) same)
