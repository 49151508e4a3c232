-- The lines of a channel tell what is on it.
use Rattle.std.proofs.Common.{◌≡◌, ℕ, ◌≤◌, Bool, true, false, cond, List, [], ◌∷◌, length, map, refl, ap, sym, ◌∙◌}
use Rattle.std.proofs.Common.{arith, true≢false}
use Rattle.std.proofs.lemmas.Bool.{le-leb}
use Rattle.ttp_world.specs.declared.medl.Medl.{Medl}
use Rattle.ttp_world.specs.declared.node.Entry.{Entry}
use Rattle.ttp_world.specs.declared.script.Channel.{Channel}
use Rattle.ttp_world.specs.declared.script.Fault.TheVariants as fault
use Rattle.ttp_world.specs.declared.script.Script.{Script}
use Rattle.ttp_world.specs.Diary.{History}
use Rattle.ttp_world.specs.Medium.{SentFrame, Silence, Noise, Bits, channel_signal, combined_signal, flip_bits}
use Rattle.ttp_world.specs.Medium.{is_silence, signal_of}
use Rattle.ttp_world.specs.Script.{flipped_bits, has_send_fault}
use Rattle.ttp_world.specs.World.{slot_after}
use Rattle.bus_frames.specs.FrameText.{bus_line, channel_lines, frame_line, signal_line}
use Rattle.bus_frames.specs.Sending.{frames_sent, sending_in}
use Rattle.bus_frames.specs.Standing.{frames_there}
use Rattle.frame_laws.specs.Lines.{IsLoneLine, meeting_line}

-- a frame is heard
heard-sent : (noise : Bool) (k : ℕ) (bytes : List ℕ) → is_silence (cond noise Noise (Bits k bytes)) ≡ false
heard-sent true k bytes = refl
heard-sent false k bytes = refl

module _ (list : Medl) (script : Script) (before : History) (c : Channel) where
  none-signal : (others there : List SentFrame) → map (bus_line list script before c others) there ≡ []
      → combined_signal script (length before) c there ≡ Silence
  none-signal others [] is = refl
  none-signal others (sent ∷ more) is = cc

  silent-none : (others there : List SentFrame) → combined_signal script (length before) c there ≡ Silence
      → map (bus_line list script before c others) there ≡ []
  silent-none others [] is = refl
  silent-none others (sent ∷ []) is =
      absurd (true≢false (sym (ap is_silence is) ∙ heard-sent
      (has_send_fault script fault.Noise sent.sender c (length before)) sent.sender
      (flip_bits sent.bytes (flipped_bits script sent.sender c (length before)))))
  silent-none others (sent ∷ more ∷ rest) is = absurd (true≢false (sym (ap is_silence is)))

  lone : (there : List SentFrame) → length (map (bus_line list script before c there) there) ≡ 1
      → (sender : ℕ)
      × (map (bus_line list script before c there) there
      ≡ signal_line list (length before) c (sending_in (slot_after list script before) sender)
      (combined_signal script (length before) c there) ∷ [])
  lone [] is = cc
  lone (sent ∷ []) is = (sent.sender, refl)
  lone (sent ∷ more ∷ rest) is = cc

  meeting : (there : List SentFrame) → 2 ≤ length (map (bus_line list script before c there) there)
      → (combined_signal script (length before) c there ≡ Noise)
      × (map (bus_line list script before c there) there ≡ map (meeting_line list script before c) there)
  meeting [] is = absurd (omega (arith, is))
  meeting (sent ∷ []) is = absurd (omega (arith, is))
  meeting (sent ∷ more ∷ rest) is = (
    refl,
    ap (λ (meets : Bool). map (λ (f : SentFrame). frame_line list (length before) c
        (sending_in (slot_after list script before) f.sender) meets (signal_of script (length before) c f))
        (sent ∷ more ∷ rest)) (le-leb 2 (length (sent ∷ more ∷ rest)) (omega arith)),
  )

  module _ (row : List Entry) where
    pub signal-silent : channel_lines list script row before c ≡ []
        → channel_signal script (length before) c (frames_sent list script row before) ≡ Silence
    signal-silent = none-signal (frames_there list script row before c) (frames_there list script row before c)

    pub lines-none : channel_signal script (length before) c (frames_sent list script row before) ≡ Silence
        → channel_lines list script row before c ≡ []
    lines-none = silent-none (frames_there list script row before c) (frames_there list script row before c)

    pub line-alone : length (channel_lines list script row before c) ≡ 1 → IsLoneLine list script row before c
    line-alone is =
        let one = lone (frames_there list script row before c) is in
        record { sender = one.0; line = one.1 }

    pub lines-meet : 2 ≤ length (channel_lines list script row before c)
        → (channel_signal script (length before) c (frames_sent list script row before) ≡ Noise)
        × (channel_lines list script row before c
        ≡ map (meeting_line list script before c) (frames_there list script row before c))
    lines-meet = meeting (frames_there list script row before c)
