-- What a node hears of one frame, and of none, by the faults of its sender and its own.
use Rattle.safety_laws.proofs.Words.{◌≡◌, ℕ, Bool, true, false, cond, not, ◌&&◌, ◌||◌, List, [], ◌∷◌, refl, ap, sym}
use Rattle.safety_laws.proofs.Words.{◌∙◌, IsTrue, and_parts, false≢true, Script, loses, SentFrame, Signal, Silence}
use Rattle.safety_laws.proofs.Words.{Noise, Bits, Hearing, flipped_bits, BegunSlot, hearing_in, is_frameless}
use Rattle.safety_laws.proofs.Words.{HearsFrame, OnBoth, OnA, OnB, HearsNoFrame, HearsSilence}
use Rattle.ttp_world.specs.declared.script.Channel.{Channel}
use Rattle.ttp_world.specs.declared.script.Channel.TheVariants as channel
use Rattle.ttp_world.specs.declared.script.Fault.TheVariants as fault
use Rattle.ttp_world.specs.Hypothesis.{is_covered}
use Rattle.ttp_world.specs.Medium.{combined_signal, signal_of, with_noise}
use Rattle.ttp_world.specs.Medium.{flip_bits, heard}
use Rattle.ttp_world.specs.Script.{has_send_fault, has_receive_fault}
use Rattle.safety_laws.specs.Heard.{IsUnflipped, signal_as_sent}

-- One channel.

-- what comes of one frame, where the sender's faults silence it or make it noise, and so do the receiver's
comes : (silenced noisy deaf disturbed : Bool) → Signal → Signal
comes silenced noisy deaf disturbed signal =
    cond deaf Silence (with_noise disturbed (cond silenced Silence (cond noisy Noise signal)))

one_combined : (script : Script) (slot : ℕ) (c : Channel) (sent : SentFrame) (silenced : Bool)
    → combined_signal script slot c (cond (not silenced) (sent ∷ []) [])
    ≡ cond silenced Silence (signal_of script slot c sent)
one_combined script slot c sent true = refl
one_combined script slot c sent false = refl

heard-comes : (script : Script) (slot r : ℕ) (c : Channel) (sent : SentFrame) → heard script slot r c (sent ∷ [])
    ≡ comes (has_send_fault script fault.Silence sent.sender c slot)
    (has_send_fault script fault.Noise sent.sender c slot) (has_receive_fault script fault.Silence r c slot)
    (has_receive_fault script fault.Noise r c slot)
    (Bits sent.sender (flip_bits sent.bytes (flipped_bits script sent.sender c slot)))
unfolding comes
heard-comes script slot r c sent =
    ap (λ (on : Signal). cond (has_receive_fault script fault.Silence r c slot) Silence
    (with_noise (has_receive_fault script fault.Noise r c slot) on))
    (one_combined script slot c sent (has_send_fault script fault.Silence sent.sender c slot))

comes-uncovered : (silenced noisy deaf disturbed : Bool) (sender : ℕ) (bytes : List ℕ)
    → ((silenced || noisy) || (deaf || disturbed)) ≡ false
    → comes silenced noisy deaf disturbed (Bits sender bytes) ≡ Bits sender bytes
unfolding comes
comes-uncovered false false false false sender bytes clear = refl
comes-uncovered _ _ _ _ sender bytes clear = absurd (false≢true (sym clear))

comes-covered : (silenced noisy deaf disturbed : Bool) (sender : ℕ) (bytes : List ℕ)
    → ((silenced || noisy) || (deaf || disturbed)) ≡ true
    → is_frameless (comes silenced noisy deaf disturbed (Bits sender bytes)) ≡ true
unfolding comes
comes-covered silenced noisy true disturbed sender bytes covered = refl
comes-covered false false false false sender bytes covered = absurd (false≢true covered)
comes-covered _ _ _ true sender bytes covered = refl
comes-covered _ _ _ _ sender bytes covered = refl

-- a receiver that is not covered hears the frame as it was sent
pub heard-uncovered : (script : Script) (slot r : ℕ) (c : Channel) (sent : SentFrame)
    → flipped_bits script sent.sender c slot ≡ [] → is_covered script sent.sender r slot c ≡ false
    → heard script slot r c (sent ∷ []) ≡ signal_as_sent sent
heard-uncovered script slot r c sent unflipped clear =
    heard-comes script slot r c sent ∙ ap (λ bits. comes (has_send_fault script fault.Silence sent.sender c slot)
    (has_send_fault script fault.Noise sent.sender c slot) (has_receive_fault script fault.Silence r c slot)
    (has_receive_fault script fault.Noise r c slot) (Bits sent.sender (flip_bits sent.bytes bits))) unflipped
    ∙ comes-uncovered _ _ _ _ sent.sender sent.bytes clear

-- and one that is covered hears no frame
pub heard-covered : (script : Script) (slot r : ℕ) (c : Channel) (sent : SentFrame)
    → is_covered script sent.sender r slot c ≡ true → is_frameless (heard script slot r c (sent ∷ [])) ≡ true
heard-covered script slot r c sent covered =
    ap is_frameless (heard-comes script slot r c sent) ∙ comes-covered _ _ _ _ sent.sender _ covered

-- where nobody sends there is silence, whatever the faults
pub heard-none : (script : Script) (slot r : ℕ) (c : Channel) → heard script slot r c [] ≡ Silence
heard-none script slot r c = silent (has_receive_fault script fault.Silence r c slot)
  where
    silent : (deaf : Bool) → cond deaf Silence Silence ≡ Silence
    silent true = refl
    silent false = refl

-- Both channels.

by_channels : (h : Hearing) (sent : SentFrame) (a b : Bool) → (a && b) ≡ false
    → (a ≡ false → h.a ≡ signal_as_sent sent) → (a ≡ true → IsTrue (is_frameless h.a))
    → (b ≡ false → h.b ≡ signal_as_sent sent) → (b ≡ true → IsTrue (is_frameless h.b)) → HearsFrame sent h
by_channels h sent false false clear a_heard a_lost b_heard b_lost = OnBoth (a_heard refl) (b_heard refl)
by_channels h sent false true clear a_heard a_lost b_heard b_lost = OnA (a_heard refl) (b_lost refl)
by_channels h sent true false clear a_heard a_lost b_heard b_lost = OnB (a_lost refl) (b_heard refl)
by_channels h sent true true clear a_heard a_lost b_heard b_lost = absurd (false≢true (sym clear))

-- a node that does not lose the frame hears it
pub HearsFrame-kept : (s : BegunSlot) (frames : List SentFrame) (sent : SentFrame) (r : ℕ) → frames ≡ sent ∷ []
    → IsUnflipped s.script sent.sender s.number → loses s.script sent.sender s.number r ≡ false
    → HearsFrame sent (hearing_in s frames r)
HearsFrame-kept s frames sent r is unflipped kept =
    by_channels (hearing_in s frames r) sent (is_covered s.script sent.sender r s.number channel.A)
    (is_covered s.script sent.sender r s.number channel.B) kept
    (on_heard channel.A) (on_lost channel.A) (on_heard channel.B) (on_lost channel.B)
  where
    on : (c : Channel) → heard s.script s.number r c frames ≡ heard s.script s.number r c (sent ∷ [])
    on c = ap (heard s.script s.number r c) is

    on_heard : (c : Channel) → is_covered s.script sent.sender r s.number c ≡ false
        → heard s.script s.number r c frames ≡ signal_as_sent sent
    on_heard c clear = on c ∙ heard-uncovered s.script s.number r c sent (unflipped c) clear

    on_lost : (c : Channel) → is_covered s.script sent.sender r s.number c ≡ true
        → is_frameless (heard s.script s.number r c frames) ≡ true
    on_lost c covered = ap is_frameless (on c) ∙ heard-covered s.script s.number r c sent covered

-- one that loses it hears none
pub HearsNoFrame-lost : (s : BegunSlot) (frames : List SentFrame) (sent : SentFrame) (r : ℕ) → frames ≡ sent ∷ []
    → loses s.script sent.sender s.number r ≡ true → HearsNoFrame (hearing_in s frames r)
HearsNoFrame-lost s frames sent r is lost =
    let both = and_parts (is_covered s.script sent.sender r s.number channel.A) _ lost in
    record {
      a = ap (λ (fs : List SentFrame). is_frameless (heard s.script s.number r channel.A fs)) is
          ∙ heard-covered s.script s.number r channel.A sent both.0;
      b = ap (λ (fs : List SentFrame). is_frameless (heard s.script s.number r channel.B fs)) is
          ∙ heard-covered s.script s.number r channel.B sent both.1;
    }

-- and where nobody sends each hears silence
pub HearsSilence-none : (s : BegunSlot) (frames : List SentFrame) (r : ℕ) → frames ≡ []
    → HearsSilence (hearing_in s frames r)
HearsSilence-none s frames r is = record {
  a = ap (heard s.script s.number r channel.A) is ∙ heard-none s.script s.number r channel.A;
  b = ap (heard s.script s.number r channel.B) is ∙ heard-none s.script s.number r channel.B;
}

-- Where nothing comes no frame comes.

pub frameless-silent : (h : Hearing) → HearsSilence h → HearsNoFrame h
frameless-silent h silent = record {
  a = ap (λ (s : Signal). is_frameless s) silent.a;
  b = ap (λ (s : Signal). is_frameless s) silent.b;
}
