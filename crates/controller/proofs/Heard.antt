-- What a node hears, judges and delivers, by what comes to it.
use Rattle.controller.proofs.Words.{◌≡◌, ℕ, zero, suc, ℤ, refl, ◌+ℤ◌, ◌-ℤ◌, List, ap, sym, subst, pos, true, Option}
use Rattle.controller.proofs.Words.{Some, None, unwrap_or, ◌∙◌, not, IfSome, Bor, ◌==◌, Medl, Ack, CState, ChannelView}
use Rattle.controller.proofs.Words.{Entry, carries_payload, delivery, Place, Signal, Bits, NodePast, Shows, Arrival}
use Rattle.controller.proofs.Words.{is_silent_arrival, IsSeen, offset_of_arrival, ne_eqb, listening_entry, joinable}
use Rattle.controller.proofs.Words.{Silence, ForSignals, deviation_by, Receives, awaited_by, IsJudgement, is_silence}
use Rattle.ttp_world.specs.Medium.{Noise}
use Rattle.ttp_world.specs.declared.node.Verdict.TheVariants.{Correct}
use Rattle.ttp_world.specs.Reception.{Expected, Hearing, entry_deviation, expected_of, heard_deviation, is_taken_from_a}
use Rattle.ttp_world.specs.Reception.{verdict_of, view_of, expected_length, is_first_view}
use Rattle.ttp_world.specs.declared.node.ChannelView.TheVariants.{First}
use Rattle.ttp_world.proofs.EntriesMade.{listening_entry-holds}
use Rattle.controller.specs.declared.hearing.Judgement.{Judgement}
use Rattle.controller.specs.declared.hearing.Receiver.{Receiver}
use Rattle.controller.specs.declared.hearing.Seen.{Seen}
use Rattle.ttp_world.specs.declared.node.Entry.TheVariants as entry
use Rattle.medium.specs.declared.arrival.Arrival.TheVariants as arrival

-- Whatever comes to a node shows some signals.

-- as sent by this node
abbrev pub signal_from : ℕ → Arrival → Signal
signal_from sender arrival.Silence = Silence
signal_from sender arrival.Noise = Noise
signal_from sender (arrival.Bits bytes offset) = Bits sender bytes.now

-- where what came on A is of node 0, and what came on B of another
abbrev pub clock_from : Arrival → Arrival → ℕ → ℤ
clock_from a b zero = offset_of_arrival a
clock_from a b (suc sender) = offset_of_arrival b

pub shows_a : (a b : Arrival) → Shows a (signal_from 0 a) (clock_from a b)
shows_a (arrival.Bits bytes offset) b = (refl, refl)
shows_a _ b = refl

pub shows_b : (a b : Arrival) → Shows b (signal_from 1 b) (clock_from a b)
shows_b a (arrival.Bits bytes offset) = (refl, refl)
shows_b a _ = refl

-- silence is told of what came
pub silence-shown : (came : Arrival) (sent : Signal) (clock : ℕ → ℤ) → Shows came sent clock
    → is_silent_arrival came ≡ is_silence sent
silence-shown arrival.Silence Silence clock shows = refl
silence-shown arrival.Noise Noise clock shows = refl
silence-shown (arrival.Bits came offset) (Bits sender bytes) clock shows = refl
silence-shown _ (Bits sender bytes) clock shows = absurd shows
silence-shown _ _ clock shows = cc

-- What came on a channel tells what was heard there.

-- bits show themselves, and how late they are, by whatever node sent them
bits-show : (P : Signal → (ℕ → ℤ) → Type 0) (own error : ℤ) (bytes : Bor (List ℕ)) (offset : ℤ)
    → ((sender : ℕ) (deviation : ℕ → ℤ) → deviation sender ≡ (offset -ℤ own) +ℤ error
    → P (Bits sender bytes.now) deviation)
    → ForSignals (arrival.Bits bytes offset) own error P
bits-show P own error bytes offset here (Bits sender sent) clock shows =
    subst (λ (bs : List ℕ). P (Bits sender bs) (deviation_by clock own error)) shows.0
    (here sender (deviation_by clock own error) (ap (λ (ahead : ℤ). (ahead -ℤ own) +ℤ error) (sym shows.1)))
bits-show P own error bytes offset here _ clock shows = cc

pub of_bits : (P : Signal → (ℕ → ℤ) → Type 0) (own error : ℤ) (came : Arrival) (bytes : Bor (List ℕ)) (offset : ℤ)
    → came ≡ arrival.Bits bytes offset
    → ((sender : ℕ) (deviation : ℕ → ℤ) → deviation sender ≡ (offset -ℤ own) +ℤ error
    → P (Bits sender bytes.now) deviation)
    → ForSignals came own error P
of_bits P own error came bytes offset is here =
    subst (λ (a : Arrival). ForSignals a own error P) (sym is) (bits-show P own error bytes offset here)

-- Judgements: where channel A is seen as the first candidate, channel B changes nothing.

first_is_taken : (b : ChannelView) (a : Ack) → (Correct ≡ verdict_of First b a) × (true ≡ is_taken_from_a First b)
first_is_taken First a = (refl, refl)
first_is_taken _ a = (refl, refl)

first_of_test : (v : ChannelView) → is_first_view v ≡ true → v ≡ First
first_of_test First is = refl
first_of_test _ is = cc

-- a frame that is seen so carried bits
first_heard : (list : Medl) (e : Expected) (late : ℕ → ℤ) (sent : Signal) (b : Option ℤ)
    → view_of list e late sent ≡ First
    → unwrap_or (heard_deviation late sent) (pos 0) ≡ entry_deviation true (heard_deviation late sent) b
first_heard list e late (Bits sender bytes) None is = refl
first_heard list e late (Bits sender bytes) (Some b) is = refl
first_heard list e late _ b is = cc

pub IsJudgement-first : (list : Medl) (e : Expected) (a : Ack) (h : Hearing) (seen : Seen) (deviation : ℤ)
    → IsSeen seen list e h.a h.deviation
    → is_first_view seen.view ≡ true → deviation ≡ unwrap_or seen.deviation (pos 0)
    → IsJudgement (record { verdict = Correct; deviation = deviation; from_a = true }) list e a h
IsJudgement-first list e a h seen deviation is first late =
    let view_a : view_of list e h.deviation h.a ≡ First = sym is.view ∙ first_of_test seen.view first in
    let view_b = view_of list e h.deviation h.b in
    record {
      verdict = rw view_a (first_is_taken view_b a).0;
      deviation = rw (late, is.deviation, view_a, ← (first_is_taken view_b a).1)
          (first_heard list e h.deviation h.a (heard_deviation h.deviation h.b) view_a);
      from_a = sym (ap is_first_view view_a);
    }

-- What a receiver expects is what the node expects by its past.

pub IsJudgement-received : (list : Medl) (past : NodePast) (receiver : Receiver) (h : Hearing) (found : Judgement)
    (e : Expected) (a : Ack)
    → Receives list past receiver → e ≡ awaited_by receiver → a ≡ receiver.ack → IsJudgement found list e a h
    → IsJudgement found list (expected_of list receiver.number past) past.ack h
IsJudgement-received list past receiver h found e a is expects acks judges =
    let awaited : e ≡ expected_of list receiver.number past = cc in
    rw (awaited, acks ∙ is.ack) at judges

-- What a correct verdict delivers.

-- a frame of some length carries payload
pub carries_some : (list : Medl) (place there : Place) (size : ℕ) → (size ≡ 0 → ⊥) → size ≡ expected_length list place
    → place ≡ there
    → true ≡ carries_payload list there
carries_some list place there size some is at =
    sym (ap not (ne_eqb size 0 some)) ∙ ap (λ (n : ℕ). not (n == 0)) (is ∙ ap (expected_length list) at)

-- A listening node delivers nothing.

abbrev DeliversNone : Medl → ℕ → NodePast → Hearing → Entry → Type 0
DeliversNone list k past h e = delivery list k past h e ≡ None

join_none : (list : Medl) (k : ℕ) (past : NodePast) (h : Hearing) (c : Option CState)
    → IfSome c (λ c. (d : ℤ) → DeliversNone list k past h (entry.Joined c.slot c d))
join_none list k past h None = tt
join_none list k past h (Some c) = λ d. refl

pub listening-none : (list : Medl) (k : ℕ) (past : NodePast) (h : Hearing)
    → delivery list k past h (listening_entry list h) ≡ None
listening-none list k past h =
    listening_entry-holds (DeliversNone list k past h) list h refl
    (λ bytes. join_none list k past h (joinable list bytes))
