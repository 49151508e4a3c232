-- The lines of a node on a channel.
use Rattle.std.proofs.Common.{◌≡◌, ℕ, ◌<◌, Bool, true, false, cond, List, [], ◌∷◌, length, map, refl, ap, sym, ◌∙◌}
use Rattle.std.specs.Prelude.{ℤ, nat_le, ◌&&◌, not}
use Rattle.std.proofs.lemmas.Bool.{and_parts}
use Rattle.ttp_world.specs.declared.medl.Medl.{Medl}
use Rattle.ttp_world.specs.declared.node.Chosen.{Chosen}
use Rattle.ttp_world.specs.declared.node.Entry.{Entry}
use Rattle.ttp_world.specs.declared.script.Channel.{Channel}
use Rattle.ttp_world.specs.declared.script.Fault.TheVariants as fault
use Rattle.ttp_world.specs.declared.script.Script.{Script}
use Rattle.ttp_world.specs.Diary.{History, entry_of}
use Rattle.ttp_world.specs.Medium.{SentFrame, channel_signal, combined_signal, is_sending, remaining_frames, signal_of}
use Rattle.ttp_world.specs.Medl.{IsValid}
use Rattle.ttp_world.specs.Script.{has_send_fault}
use Rattle.ttp_world.specs.World.{chosen_of, slot_after}
use Rattle.controller.specs.PlantView.{PlantView}
use Rattle.medium.specs.StandsFor.{sent_by}
use Rattle.bus_frames.specs.FrameText.{frame_line, bus_line}
use Rattle.bus_frames.specs.Sending.{frames_sent, sending_in}
use Rattle.bus_frames.specs.Standing.{SlotStands, frame_with, frames_there, frames_told, lines_of_node, payload_with}
use Rattle.bus_frames.proofs.Lists.{frames-alone}
use Rattle.bus_frames.proofs.Told.{frames, silent}

-- a frame of node k lies on a channel
abbrev pub lies : Script → ℕ → Channel → List Entry → ℕ → Bool
lies script slot c row k = is_sending (entry_of row k) && not (has_send_fault script fault.Silence k c slot)

module _ (plant : PlantView) (chosen : List Chosen) (offsets : List ℤ) (list : Medl) (script : Script) (slot : ℕ)
    (row : List Entry) (before : History) (stands : SlotStands plant chosen offsets list script slot row before)
    (valid : IsValid list) (k : ℕ) (node : k < length list.slots) (c : Channel) where
  pub there : lies script slot c row k ≡ true
      → remaining_frames script (length before) c (frames_told list script row before k)
      ≡ sent_by k (frame_with list (sending_in (slot_after list script before) k)
      (payload_with (sending_in (slot_after list script before) k) (chosen_of chosen k))) ∷ []
  there is =
      let parts = and_parts (is_sending (entry_of row k)) (not (has_send_fault script fault.Silence k c slot)) is in
      ap (remaining_frames script (length before) c)
      (frames plant chosen offsets list script slot row before stands valid k node parts.0)
      ∙ ap (λ (b : Bool). cond b (sent_by k (frame_with list (sending_in (slot_after list script before) k)
      (payload_with (sending_in (slot_after list script before) k) (chosen_of chosen k))) ∷ []) [])
      (ap (λ t. not (has_send_fault script fault.Silence k c t)) stands.long ∙ parts.1)

  pub nothing-there : lies script slot c row k ≡ false
      → remaining_frames script (length before) c (frames_told list script row before k) ≡ []
  nothing-there is = by-sending (is_sending (entry_of row k)) refl is
    where
      by-sending : (b : Bool) → is_sending (entry_of row k) ≡ b
          → (b && not (has_send_fault script fault.Silence k c slot)) ≡ false
          → remaining_frames script (length before) c (frames_told list script row before k) ≡ []
      by-sending false sends is =
          ap (remaining_frames script (length before) c)
          (silent plant chosen offsets list script slot row before stands valid k node sends)
      by-sending true sends is =
          ap (remaining_frames script (length before) c)
          (frames plant chosen offsets list script slot row before stands valid k node sends)
          ∙ ap (λ (b : Bool). cond b (sent_by k (frame_with list (sending_in (slot_after list script before) k)
          (payload_with (sending_in (slot_after list script before) k) (chosen_of chosen k))) ∷ []) [])
          (ap (λ t. not (has_send_fault script fault.Silence k c t)) stands.long ∙ is)

  pub no-lines : lies script slot c row k ≡ false
      → lines_of_node list script row before c (frames_there list script row before c) k ≡ []
  no-lines is = ap (map (bus_line list script before c (frames_there list script row before c))) (nothing-there is)

  -- what is on the channel, where no two frames lie there
  pub alone-signal : lies script slot c row k ≡ true → nat_le 2 (length (frames_there list script row before c)) ≡ false
      → channel_signal script (length before) c (frames_sent list script row before)
      ≡ signal_of script (length before) c (sent_by k (frame_with list (sending_in (slot_after list script before) k)
      (payload_with (sending_in (slot_after list script before) k) (chosen_of chosen k))))
  alone-signal is few =
      ap (combined_signal script (length before) c) (frames-alone list script row before c k _ node (there is) few)

  -- the line that is formed
  pub one-line : (meets : Bool) (line : List ℕ) → lies script slot c row k ≡ true
      → meets ≡ nat_le 2 (length (frames_there list script row before c))
      → line ≡ frame_line list slot c (sending_in (slot_after list script before) k) meets
      (signal_of script (length before) c (sent_by k (frame_with list (sending_in (slot_after list script before) k)
      (payload_with (sending_in (slot_after list script before) k) (chosen_of chosen k)))))
      → lines_of_node list script row before c (frames_there list script row before c) k ≡ line ∷ []
  one-line meets line is same line_is =
      let frame = sent_by k (frame_with list (sending_in (slot_after list script before) k)
      (payload_with (sending_in (slot_after list script before) k) (chosen_of chosen k))) in
      ap (map (bus_line list script before c (frames_there list script row before c))) (there is)
      ∙ ap (λ (l : List ℕ). l ∷ []) (sym (line_is
      ∙ (λ i. frame_line list (sym stands.long i) c (sending_in (slot_after list script before) k) (same i)
      (signal_of script (length before) c frame))))
