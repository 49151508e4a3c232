-- What is on a channel after one frame more, and what a receiver hears of it.
use Rattle.std.proofs.Common.{◌≡◌, ℕ, ℤ, Bool, true, false, not, ◌||◌, cond, List, [], ◌∷◌, ◌++◌, refl, subst}
use Rattle.std.proofs.lemmas.List.{append-nil}
use Rattle.std.proofs.lemmas.List.Elements.{filter-append}
use Rattle.ttp_world.specs.declared.script.Channel.{Channel}
use Rattle.ttp_world.specs.declared.script.Channel.TheVariants as channel
use Rattle.ttp_world.specs.declared.script.Fault.TheVariants as fault
use Rattle.ttp_world.specs.declared.script.Script.{Script}
use Rattle.ttp_world.specs.Medium.{SentFrame, Signal, Silence, Noise, Bits, flip_bits, remains, remaining_frames}
use Rattle.ttp_world.specs.Medium.{combined_signal, channel_signal, heard}
use Rattle.ttp_world.specs.Events.{channels_where, has_bits, is_among}
use Rattle.ttp_world.specs.Script.{has_send_fault, has_receive_fault, flipped_bits, incidents_of}
use Rattle.medium.specs.declared.arrival.Arrival.{Arrival}
use Rattle.medium.specs.Carried.{OnChannel}
use Rattle.medium.specs.ChannelState.{noise, bits, meet, with_frame}
use Rattle.medium.specs.Shows.{IsBits, Shows, ShowsReceived}
use Rattle.medium.specs.StandsFor.{IsOffsetOf, Carries}

-- One frame more.

-- what comes of a frame, or noise in its place
carries_frame : (noisy : Bool) (sender : ℕ) (bytes : List ℕ) (offset : ℤ) (clock : ℕ → ℤ) → offset ≡ clock sender
    → Carries (cond noisy noise (bits sender bytes offset)) (cond noisy Noise (Bits sender bytes)) clock
carries_frame true sender bytes offset clock is = record { signal = refl; offset = tt }
carries_frame false sender bytes offset clock is = record { signal = refl; offset = is }

carries_noise : (clock : ℕ → ℤ) → Carries noise Noise clock
carries_noise clock = record { signal = refl; offset = tt }

-- a frame is there, or noise in its place: what comes makes noise of it
meet-frame : (noisy : Bool) (sender : ℕ) (bytes : List ℕ) (new : OnChannel)
    → meet (cond noisy Noise (Bits sender bytes)) new ≡ noise
meet-frame true sender bytes new = refl
meet-frame false sender bytes new = refl

-- the frame that remains of a sender, as it is heard
abbrev left_of : Script → ℕ → Channel → SentFrame → ℤ → OnChannel
left_of script t c sent offset =
    cond (has_send_fault script fault.Noise sent.sender c t) noise
    (bits sent.sender (flip_bits sent.bytes (flipped_bits script sent.sender c t)) offset)

carries_more : (script : Script) (t : ℕ) (c : Channel) (there : OnChannel) (before : List SentFrame) (sent : SentFrame)
    (offset : ℤ) (clock : ℕ → ℤ)
    → offset ≡ clock sent.sender → Carries there (combined_signal script t c before) clock
    → Carries (meet there.signal (left_of script t c sent offset))
    (combined_signal script t c (before ++ sent ∷ [])) clock
carries_more script t c there [] sent offset clock is old =
    rw old.signal (carries_frame (has_send_fault script fault.Noise sent.sender c t) sent.sender _ offset clock is)
carries_more script t c there (first ∷ []) sent offset clock is old =
    rw (old.signal, meet-frame (has_send_fault script fault.Noise first.sender c t) first.sender) (carries_noise clock)
carries_more script t c there (first ∷ second ∷ others) sent offset clock is old = rw old.signal (carries_noise clock)

-- a frame that its sender's faults silence, or not
carries_unless : (silenced : Bool) (script : Script) (t : ℕ) (c : Channel) (there : OnChannel) (before : List SentFrame)
    (sent : SentFrame) (offset : ℤ) (clock : ℕ → ℤ)
    → offset ≡ clock sent.sender → Carries there (combined_signal script t c before) clock
    → Carries (cond silenced there (meet there.signal (left_of script t c sent offset)))
    (combined_signal script t c (before ++ cond (not silenced) (sent ∷ []) [])) clock
carries_unless true script t c there before sent offset clock is old = rw (append-nil before) old
carries_unless false script t c there before sent offset clock is old =
    carries_more script t c there before sent offset clock is old

module _ (script : Script) (t : ℕ) (c : Channel) where
  -- a channel that carries what is made of some frames carries, once a frame is put there, what is made of these and it
  pub Carries-put :
      (there new : OnChannel) (frames : List SentFrame) (sent : SentFrame) (offset : ℤ) (clock : ℕ → ℤ)
      (silenced noisy : Bool) (flips : List ℕ)
      → offset ≡ clock sent.sender → silenced ≡ has_send_fault script fault.Silence sent.sender c t
      → noisy ≡ has_send_fault script fault.Noise sent.sender c t → flips ≡ flipped_bits script sent.sender c t
      → new ≡ with_frame there silenced noisy (bits sent.sender (flip_bits sent.bytes flips) offset)
      → Carries there (channel_signal script t c frames) clock
      → Carries new (channel_signal script t c (frames ++ sent ∷ [])) clock
  Carries-put there new frames sent offset clock _ _ _ is silenced_is noisy_is flips_are put old =
      rw (put, silenced_is, noisy_is, flips_are, filter-append (remains script t c) frames (sent ∷ []))
      (carries_unless (has_send_fault script fault.Silence sent.sender c t) script t c there
      (remaining_frames script t c frames) sent offset clock is old)

-- What is heard.

shows_offset : (came : Arrival) (s : Signal) (offset : ℤ) (clock : ℕ → ℤ) → IsOffsetOf offset s clock
    → Shows came s (λ _. offset) → Shows came s clock
shows_offset came Silence offset clock is shown = shown
shows_offset came Noise offset clock is shown = shown
shows_offset came (Bits sender bytes) offset clock is shown = subst (IsBits came bytes) is shown

-- what shows what is on a channel shows the signal there
pub Shows-carried : (came : Arrival) (there : OnChannel) (s : Signal) (clock : ℕ → ℤ) → Carries there s clock
    → Shows came there.signal (λ _. there.offset) → Shows came s clock
Shows-carried came there s clock carries shown =
    shows_offset came s there.offset clock carries.offset
    (subst (λ (v : Signal). Shows came v (λ _. there.offset)) carries.signal shown)

-- A receiver's faults on a channel.

pub is_among-where : (p : Channel → Bool) (c : Channel) → is_among c (channels_where p) ≡ p c
is_among-where p channel.A = refl
is_among-where p channel.B = refl

pub Shows-heard : (script : Script) (t r : ℕ) (c : Channel) (frames : List SentFrame) (clock : ℕ → ℤ)
    (there received : Arrival) (silenced noisy : Bool)
    → silenced ≡ has_receive_fault script fault.Silence r c t
    → noisy ≡ has_receive_fault script fault.Noise r c t
    → ShowsReceived there silenced noisy received
    → Shows there (channel_signal script t c frames) clock → Shows received (heard script t r c frames) clock
Shows-heard script t r c frames clock there received silenced noisy silenced_is noisy_is shows shown =
    rw (← silenced_is, ← noisy_is) (shows (channel_signal script t c frames) clock shown)

-- Flipped bits that there are none of.

none_on_either : (a b : List ℕ) → (has_bits a || has_bits b) ≡ false → ([] ≡ a) × ([] ≡ b)
none_on_either [] [] none = (refl, refl)
none_on_either [] (bit ∷ bits) none = absurd (cc)
none_on_either (bit ∷ bits) b none = absurd (cc)

pub flipped_bits-none : (script : Script) (k t : ℕ) → (incidents_of script k t).has_flip ≡ false → (c : Channel)
    → [] ≡ flipped_bits script k c t
flipped_bits-none script k t none channel.A =
    (none_on_either (flipped_bits script k channel.A t) (flipped_bits script k channel.B t) none).0
flipped_bits-none script k t none channel.B =
    (none_on_either (flipped_bits script k channel.A t) (flipped_bits script k channel.B t) none).1
