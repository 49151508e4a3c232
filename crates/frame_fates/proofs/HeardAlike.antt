-- In slots that differ in the payloads of frames alone, nodes do the same: what each hears is taken alike.
use Rattle.std.proofs.Common.{◌≡◌, ℕ, ℤ, Bool, true, false, cond, List, [], ◌∷◌, Some}
use Rattle.std.proofs.Common.{unwrap_or, refl, ap, ◌∙◌}
use Rattle.std.specs.Option.{option_or}
use Rattle.ttp_world.specs.declared.medl.Medl.{Medl}
use Rattle.ttp_world.specs.declared.node.Entry.TheVariants as entry
use Rattle.ttp_world.specs.declared.script.Channel.{Channel}
use Rattle.ttp_world.specs.declared.script.Fault.TheVariants as fault
use Rattle.ttp_world.specs.declared.script.Script.{Script}
use Rattle.ttp_world.specs.Act.{coming_place}
use Rattle.ttp_world.specs.Conduct.{join_entry, channel_join, listening_entry, verdict_entry, judging_entry}
use Rattle.ttp_world.specs.Medium.{Signal, Silence, Noise, Bits, SentFrame, flip_bits, remains, remaining_frames}
use Rattle.ttp_world.specs.Medium.{combined_signal, with_noise, heard}
use Rattle.ttp_world.specs.Past.{NodePast}
use Rattle.ttp_world.specs.Reception.{Hearing, Expected, expected_of, view_of, verdict_of, is_taken_from_a}
use Rattle.ttp_world.specs.Reception.{heard_deviation, entry_deviation}
use Rattle.ttp_world.specs.Script.{has_send_fault, has_receive_fault, flipped_bits}
use Rattle.frame_fates.proofs.TakenAlike.{AreTakenAlike}

-- Frames.

-- two frames of one sender that are taken alike on each channel
pub record AreSentAlike (list : Medl) (script : Script) (slot : ℕ) (one other : SentFrame) : Type 0 where
  pub sender : one.sender ≡ other.sender
  pub taken : (c : Channel)
      → AreTakenAlike list (flip_bits one.bytes (flipped_bits script one.sender c slot))
      (flip_bits other.bytes (flipped_bits script other.sender c slot))

abbrev pub AreAllSentAlike : Medl → Script → ℕ → List SentFrame → List SentFrame → Type 0
AreAllSentAlike list script slot [] [] = Unit {0}
AreAllSentAlike list script slot (one ∷ ones) (other ∷ others) =
    AreSentAlike list script slot one other × AreAllSentAlike list script slot ones others
AreAllSentAlike list script slot ones others = ⊥

-- Signals.

abbrev pub AreSignalsAlike : Medl → Signal → Signal → Type 0
AreSignalsAlike list Silence Silence = Unit {0}
AreSignalsAlike list Noise Noise = Unit {0}
AreSignalsAlike list (Bits p one) (Bits q other) = (p ≡ q) × AreTakenAlike list one other
AreSignalsAlike list one other = ⊥

kept-alike : (list : Medl) (script : Script) (slot : ℕ) (keeps keeps_too : Bool) (one other : SentFrame)
    (ones others : List SentFrame) → keeps ≡ keeps_too → AreSentAlike list script slot one other
    → AreAllSentAlike list script slot ones others
    → AreAllSentAlike list script slot (cond keeps (one ∷ ones) ones) (cond keeps_too (other ∷ others) others)
kept-alike list script slot true true one other ones others same alike rest = (alike, rest)
kept-alike list script slot false false one other ones others same alike rest = rest
kept-alike list script slot keeps keeps_too one other ones others same alike rest = absurd (cc)

remaining-alike : (list : Medl) (script : Script) (slot : ℕ) (c : Channel) (ones others : List SentFrame)
    → AreAllSentAlike list script slot ones others
    → AreAllSentAlike list script slot (remaining_frames script slot c ones) (remaining_frames script slot c others)
remaining-alike list script slot c [] [] alike = tt
remaining-alike list script slot c (one ∷ ones) (other ∷ others) alike =
    kept-alike list script slot (remains script slot c one) (remains script slot c other) one other
    (remaining_frames script slot c ones) (remaining_frames script slot c others)
    (ap (λ p. remains script slot c (record { sender = p; bytes = [] })) alike.0.sender) alike.0
    (remaining-alike list script slot c ones others alike.1)
remaining-alike list script slot c ones others alike = absurd alike

signal-alike : (list : Medl) (script : Script) (slot : ℕ) (c : Channel) (noisy noisy_too : Bool)
    (one other : SentFrame) → noisy ≡ noisy_too → AreSentAlike list script slot one other
    → AreSignalsAlike list
    (cond noisy Noise (Bits one.sender (flip_bits one.bytes (flipped_bits script one.sender c slot))))
    (cond noisy_too Noise (Bits other.sender (flip_bits other.bytes (flipped_bits script other.sender c slot))))
signal-alike list script slot c true true one other same alike = tt
signal-alike list script slot c false false one other same alike = (alike.sender, alike.taken c)
signal-alike list script slot c noisy noisy_too one other same alike = absurd (cc)

combined-alike : (list : Medl) (script : Script) (slot : ℕ) (c : Channel) (ones others : List SentFrame)
    → AreAllSentAlike list script slot ones others
    → AreSignalsAlike list (combined_signal script slot c ones) (combined_signal script slot c others)
combined-alike list script slot c [] [] alike = tt
combined-alike list script slot c (one ∷ []) (other ∷ []) alike =
    signal-alike list script slot c (has_send_fault script fault.Noise one.sender c slot)
    (has_send_fault script fault.Noise other.sender c slot) one other
    (ap (λ p. has_send_fault script fault.Noise p c slot) alike.0.sender) alike.0
combined-alike list script slot c (one ∷ []) (other ∷ another ∷ others) alike = absurd alike.1
combined-alike list script slot c (one ∷ more ∷ ones) (other ∷ []) alike = absurd alike.1
combined-alike list script slot c (one ∷ more ∷ ones) (other ∷ another ∷ others) alike = tt
combined-alike list script slot c ones others alike = absurd alike

noise-alike : (list : Medl) (noisy : Bool) (one other : Signal) → AreSignalsAlike list one other
    → AreSignalsAlike list (with_noise noisy one) (with_noise noisy other)
noise-alike list noisy Silence Silence alike = tt
noise-alike list noisy Noise Noise alike = tt
noise-alike list true (Bits p one) (Bits q other) alike = tt
noise-alike list false (Bits p one) (Bits q other) alike = alike
noise-alike list noisy one other alike = absurd alike

silenced-alike : (list : Medl) (silenced : Bool) (one other : Signal) → AreSignalsAlike list one other
    → AreSignalsAlike list (cond silenced Silence one) (cond silenced Silence other)
silenced-alike list true one other alike = tt
silenced-alike list false one other alike = alike

-- what a node hears
pub heard-alike : (list : Medl) (script : Script) (slot r : ℕ) (c : Channel) (ones others : List SentFrame)
    → AreAllSentAlike list script slot ones others
    → AreSignalsAlike list (heard script slot r c ones) (heard script slot r c others)
heard-alike list script slot r c ones others alike =
    silenced-alike list (has_receive_fault script fault.Silence r c slot) _ _
    (noise-alike list (has_receive_fault script fault.Noise r c slot) _ _
    (combined-alike list script slot c (remaining_frames script slot c ones) (remaining_frames script slot c others)
    (remaining-alike list script slot c ones others alike)))

-- What a node makes of it.

join-alike : (list : Medl) (deviation : ℕ → ℤ) (one other : Signal) → AreSignalsAlike list one other
    → channel_join list deviation one ≡ channel_join list deviation other
join-alike list deviation Silence Silence alike = refl
join-alike list deviation Noise Noise alike = refl
join-alike list deviation (Bits p one) (Bits q other) alike =
    λ i. join_entry (deviation (alike.0 i)) (alike.1.joined i)
join-alike list deviation one other alike = absurd alike

view-alike : (list : Medl) (expected : Expected) (deviation : ℕ → ℤ) (one other : Signal)
    → AreSignalsAlike list one other
    → view_of list expected deviation one ≡ view_of list expected deviation other
view-alike list expected deviation Silence Silence alike = refl
view-alike list expected deviation Noise Noise alike = refl
view-alike list expected deviation (Bits p one) (Bits q other) alike =
    alike.1.seen expected (deviation p)
    ∙ ap (λ s. view_of list expected deviation (Bits s other)) alike.0
view-alike list expected deviation one other alike = absurd alike

deviation-alike : (list : Medl) (deviation : ℕ → ℤ) (one other : Signal) → AreSignalsAlike list one other
    → heard_deviation deviation one ≡ heard_deviation deviation other
deviation-alike list deviation Silence Silence alike = refl
deviation-alike list deviation Noise Noise alike = refl
deviation-alike list deviation (Bits p one) (Bits q other) alike = ap (λ s. Some (deviation s)) alike.0
deviation-alike list deviation one other alike = absurd alike

abbrev heard_so : Signal → Signal → (ℕ → ℤ) → Hearing
heard_so a b deviation = record { a = a; b = b; deviation = deviation }

pub listening-alike : (list : Medl) (deviation : ℕ → ℤ) (a b c d : Signal) → AreSignalsAlike list a c
    → AreSignalsAlike list b d
    → listening_entry list (heard_so a b deviation) ≡ listening_entry list (heard_so c d deviation)
listening-alike list deviation a b c d first second =
    λ i. unwrap_or (option_or (join-alike list deviation a c first i) (join-alike list deviation b d second i))
    entry.Waited

pub judging-alike : (list : Medl) (k : ℕ) (past : NodePast) (deviation : ℕ → ℤ) (a b c d : Signal)
    → AreSignalsAlike list a c → AreSignalsAlike list b d
    → judging_entry list k past (heard_so a b deviation) ≡ judging_entry list k past (heard_so c d deviation)
judging-alike list k past deviation a b c d first second =
    let view_a = view-alike list (expected_of list k past) deviation a c first in
    let view_b = view-alike list (expected_of list k past) deviation b d second in
    λ i. verdict_entry (coming_place list past).slot (verdict_of (view_a i) (view_b i) past.ack)
    (entry_deviation (is_taken_from_a (view_a i) (view_b i)) (deviation-alike list deviation a c first i)
    (deviation-alike list deviation b d second i))
