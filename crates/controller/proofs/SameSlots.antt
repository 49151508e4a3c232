-- A slot of which two scripts say the same: what is heard in it, and what comes to a node from outside.
use Rattle.std.proofs.Common.{◌≡◌, ℕ, not, ◌&&◌, List, [], ◌∷◌, refl, ap, ◌∙◌}
use Rattle.std.specs.List.{filter}
use Rattle.std.specs.Prelude.{if◌then◌else◌}
use Rattle.ttp_world.specs.declared.events.Incidents.{Incidents}
use Rattle.ttp_world.specs.declared.node.Entry.{Entry}
use Rattle.ttp_world.specs.declared.script.Channel.{Channel}
use Rattle.ttp_world.specs.declared.script.Channel.TheVariants as channel
use Rattle.ttp_world.specs.declared.script.Fault.{Fault}
use Rattle.ttp_world.specs.declared.script.Fault.TheVariants as fault
use Rattle.ttp_world.specs.declared.script.Script.{Script}
use Rattle.ttp_world.specs.Medium.{SentFrame, Noise, Silence, Bits, flip_bits, remaining_frames, combined_signal}
use Rattle.ttp_world.specs.Medium.{channel_signal, heard, is_silent_to, is_silence, senders_in, surroundings_in}
use Rattle.ttp_world.specs.Medium.{with_noise}
use Rattle.ttp_world.specs.Script.{drift_of, has_receive_fault, has_send_fault, is_armed, jump_of, reading_error}
use Rattle.controller.specs.Agreement.{SayAlike}

module _ {one other : Script} {slot : ℕ} (alike : (k : ℕ) → SayAlike one other k slot) where
  -- Each of what happens to a node is the same.

  pub armed-same : (k : ℕ) → is_armed one k slot ≡ is_armed other k slot
  armed-same k = ap (λ (w : Incidents). w.armed) (alike k).incidents

  pub error-same : (k : ℕ) → reading_error one k slot ≡ reading_error other k slot
  error-same k = ap (λ (w : Incidents). w.error) (alike k).incidents

  pub jump-same : (k : ℕ) → jump_of one k slot ≡ jump_of other k slot
  jump-same k = ap (λ (w : Incidents). w.jump) (alike k).incidents

  send-same : (kind : Fault) (k : ℕ) (c : Channel)
      → has_send_fault one kind k c slot ≡ has_send_fault other kind k c slot
  send-same fault.Silence k channel.A = ap (λ (w : Incidents). w.send_silence.a) (alike k).incidents
  send-same fault.Silence k channel.B = ap (λ (w : Incidents). w.send_silence.b) (alike k).incidents
  send-same fault.Noise k channel.A = ap (λ (w : Incidents). w.send_noise.a) (alike k).incidents
  send-same fault.Noise k channel.B = ap (λ (w : Incidents). w.send_noise.b) (alike k).incidents

  receive-same : (kind : Fault) (k : ℕ) (c : Channel)
      → has_receive_fault one kind k c slot ≡ has_receive_fault other kind k c slot
  receive-same fault.Silence k channel.A = ap (λ (w : Incidents). w.receive_silence.a) (alike k).incidents
  receive-same fault.Silence k channel.B = ap (λ (w : Incidents). w.receive_silence.b) (alike k).incidents
  receive-same fault.Noise k channel.A = ap (λ (w : Incidents). w.receive_noise.a) (alike k).incidents
  receive-same fault.Noise k channel.B = ap (λ (w : Incidents). w.receive_noise.b) (alike k).incidents

  -- So is what comes of frames.

  combined-same : (c : Channel) (frames : List SentFrame)
      → combined_signal one slot c frames ≡ combined_signal other slot c frames
  combined-same c [] = refl
  combined-same c (sent ∷ []) = λ i.
      if send-same fault.Noise sent.sender c i then Noise
      else Bits sent.sender (flip_bits sent.bytes ((alike sent.sender).flips c i))
  combined-same c (sent ∷ more ∷ others) = refl

  channel-same : (c : Channel) (frames : List SentFrame)
      → channel_signal one slot c frames ≡ channel_signal other slot c frames
  channel-same c frames =
      ap (combined_signal one slot c)
      (λ i. filter (λ (sent : SentFrame). not (send-same fault.Silence sent.sender c i)) frames)
      ∙ combined-same c (remaining_frames other slot c frames)

  pub heard-same : (r : ℕ) (c : Channel) (frames : List SentFrame)
      → heard one slot r c frames ≡ heard other slot r c frames
  heard-same r c frames = λ i.
      if receive-same fault.Silence r c i then Silence
      else with_noise (receive-same fault.Noise r c i) (channel-same c frames i)

  pub surroundings_in-same : (row : List Entry) (k : ℕ) → drift_of one k ≡ drift_of other k
      → surroundings_in one slot row k ≡ surroundings_in other slot row k
  surroundings_in-same row k drift =
      let silent : is_silent_to one slot k (senders_in row) ≡ is_silent_to other slot k (senders_in row) = λ i.
      is_silence (heard-same k channel.A (senders_in row) i)
      && is_silence (heard-same k channel.B (senders_in row) i) in
      λ i. record { jump = jump-same k i; drift = drift i; is_silent = silent i }
