-- How an active node judges a slot in which one frame comes to it, or none.
use Rattle.safety_laws.proofs.Words.{◌≡◌, ℕ, ℤ, pos, Bool, true, false, cond, ◌&&◌, List, Some, refl, ap, ◌∙◌, ◌⊎◌, inl}
use Rattle.safety_laws.proofs.Words.{inr, IsTrue, cond_both, Medl, Ack, ChannelView, Entry, verdict_entry}
use Rattle.safety_laws.proofs.Words.{judging_entry, SentFrame, Signal, Silence, Noise, Bits, NodePast, Hearing}
use Rattle.safety_laws.proofs.Words.{Expected, expected_of, is_within_window, is_expected_form, fits_members}
use Rattle.safety_laws.proofs.Words.{fits_second, view_of_bits, view_of, verdict_of_view, is_frameless, HearsFrame}
use Rattle.safety_laws.proofs.Words.{OnBoth, OnA, OnB, HearsNoFrame, HearsSilence}
use Rattle.ttp_world.specs.declared.node.ChannelView.TheVariants as view
use Rattle.ttp_world.specs.declared.node.Entry.TheVariants as entry
use Rattle.ttp_world.specs.declared.node.Verdict.TheVariants as verdict
use Rattle.ttp_world.specs.Act.{coming_place}
use Rattle.ttp_world.specs.Reception.{better_view, verdict_of}
use Rattle.ttp_world.specs.Reception.{is_taken_from_a, heard_deviation, entry_deviation}

-- Views.

abbrev is_seen : ChannelView → Bool
is_seen view.Silent = false
is_seen _ = true

seen_frame : (fit second : Bool)
    → is_seen (elim fit [ true ↦ view.First | false ↦ cond second view.Second view.Other ]) ≡ true
seen_frame true second = refl
seen_frame false true = refl
seen_frame false false = refl

-- bits are never seen as silence
view_of_bits-seen : (list : Medl) (expected : Expected) (bytes : List ℕ) (deviation : ℤ)
    → is_seen (view_of_bits list expected bytes deviation) ≡ true
view_of_bits-seen list expected bytes deviation =
    cond_both (is_within_window list deviation && is_expected_form list expected bytes) _ view.Bad
    (λ v. is_seen v ≡ true) (λ formed. seen_frame (fits_members list expected bytes expected.candidates.first)
    (fits_second list expected bytes)) (λ other. refl)

better-same : (v : ChannelView) → better_view v v ≡ v
better-same view.First = refl
better-same _ = refl

-- a view of bits is taken where the other channel is silent or noisy

taken_over_silence : (v : ChannelView) → (better_view v view.Silent ≡ v) × (better_view view.Silent v ≡ v)
taken_over_silence view.First = (refl, refl)
taken_over_silence _ = (refl, refl)

taken_over_noise : (v : ChannelView) → is_seen v ≡ true → (better_view v view.Bad ≡ v) × (better_view view.Bad v ≡ v)
taken_over_noise view.Silent seen = cc
taken_over_noise _ seen = (refl, refl)

either_deviation : (from_a : Bool) (d : ℤ) → entry_deviation from_a (Some d) (Some d) ≡ d
either_deviation true d = refl
either_deviation false d = refl

-- The entry, by the signals on both channels.

module _ (list : Medl) (expected : Expected) (deviation : ℕ → ℤ) (owner : ℕ) (a : Ack) where
  judged_as : Signal → Signal → Entry
  judged_as on_a on_b =
      let view_a = view_of list expected deviation on_a in
      let view_b = view_of list expected deviation on_b in
      verdict_entry owner (verdict_of view_a view_b a) (entry_deviation (is_taken_from_a view_a view_b)
      (heard_deviation deviation on_a) (heard_deviation deviation on_b))

  judged_by_view : ChannelView → ℤ → Entry
  judged_by_view v d = verdict_entry owner (verdict_of_view v a) d

  judged-both : (sender : ℕ) (bytes : List ℕ) → judged_as (Bits sender bytes) (Bits sender bytes)
      ≡ judged_by_view (view_of_bits list expected bytes (deviation sender)) (deviation sender)
  unfolding judged_as judged_by_view
  judged-both sender bytes =
      let v = view_of_bits list expected bytes (deviation sender) in
      λ i. verdict_entry owner (verdict_of_view (better-same v i) a)
      (either_deviation (is_taken_from_a v v) (deviation sender) i)

  judged-one : (sender : ℕ) (bytes : List ℕ) (other : Signal) → IsTrue (is_frameless other) →
      let made = judged_by_view (view_of_bits list expected bytes (deviation sender)) (deviation sender) in
      (judged_as (Bits sender bytes) other ≡ made) × (judged_as other (Bits sender bytes) ≡ made)
  unfolding judged_as judged_by_view
  judged-one sender bytes Silence none =
      let taken = taken_over_silence (view_of_bits list expected bytes (deviation sender)) in (
        ap (λ w. verdict_entry owner (verdict_of_view w a) (deviation sender)) taken.0,
        ap (λ w. verdict_entry owner (verdict_of_view w a) (deviation sender)) taken.1,
      )
  judged-one sender bytes Noise none =
      let taken = taken_over_noise _ (view_of_bits-seen list expected bytes (deviation sender)) in (
        ap (λ w. verdict_entry owner (verdict_of_view w a) (deviation sender)) taken.0,
        ap (λ w. verdict_entry owner (verdict_of_view w a) (deviation sender)) taken.1,
      )
  judged-one sender bytes (Bits p bs) none = cc

  judged-frame : (h : Hearing) (sent : SentFrame) → HearsFrame sent h → judged_as h.a h.b
      ≡ judged_by_view (view_of_bits list expected sent.bytes (deviation sent.sender)) (deviation sent.sender)
  judged-frame h sent (OnBoth on_a on_b) = (λ i. judged_as (on_a i) (on_b i)) ∙ judged-both sent.sender sent.bytes
  judged-frame h sent (OnA on_a none) =
      ap (λ (s : Signal). judged_as s h.b) on_a ∙ (judged-one sent.sender sent.bytes h.b none).0
  judged-frame h sent (OnB none on_b) = ap (judged_as h.a) on_b ∙ (judged-one sent.sender sent.bytes h.a none).1

  judged-none : (on_a on_b : Signal) → IsTrue (is_frameless on_a) → IsTrue (is_frameless on_b)
      → (judged_as on_a on_b ≡ entry.Judged owner verdict.Null (pos 0))
      ⊎ (judged_as on_a on_b ≡ entry.Judged owner verdict.Invalid (pos 0))
  unfolding judged_as
  judged-none Silence Silence none none_too = inl refl
  judged-none Silence Noise none none_too = inr refl
  judged-none Noise Silence none none_too = inr refl
  judged-none Noise Noise none none_too = inr refl
  judged-none (Bits p bs) other none none_too = cc
  judged-none _ (Bits p bs) none none_too = cc

  judged-silence : judged_as Silence Silence ≡ entry.Judged owner verdict.Null (pos 0)
  unfolding judged_as
  judged-silence = refl

-- A frame that comes is judged by its view, with the deviation that it has.
pub judging_entry-frame : (list : Medl) (k : ℕ) (past : NodePast) (h : Hearing) (sent : SentFrame) → HearsFrame sent h
    → judging_entry list k past h ≡ verdict_entry (coming_place list past).slot
    (verdict_of_view (view_of_bits list (expected_of list k past) sent.bytes (h.deviation sent.sender)) past.ack)
    (h.deviation sent.sender)
unfolding judged_as judged_by_view
judging_entry-frame list k past h sent heard =
    judged-frame list (expected_of list k past) h.deviation (coming_place list past).slot past.ack h sent heard

-- Where none comes the slot is null or invalid, with deviation 0,
pub judging_entry-none : (list : Medl) (k : ℕ) (past : NodePast) (h : Hearing) → HearsNoFrame h
    → (judging_entry list k past h ≡ entry.Judged (coming_place list past).slot verdict.Null (pos 0))
    ⊎ (judging_entry list k past h ≡ entry.Judged (coming_place list past).slot verdict.Invalid (pos 0))
unfolding judged_as
judging_entry-none list k past h none =
    judged-none list (expected_of list k past) h.deviation (coming_place list past).slot past.ack h.a h.b none.a none.b

-- and null where nothing does.
pub judging_entry-silence : (list : Medl) (k : ℕ) (past : NodePast) (h : Hearing) → HearsSilence h
    → judging_entry list k past h ≡ entry.Judged (coming_place list past).slot verdict.Null (pos 0)
unfolding judged_as
judging_entry-silence list k past h silent =
    (λ i. judged_as list (expected_of list k past) h.deviation (coming_place list past).slot past.ack
    (silent.a i) (silent.b i))
    ∙ judged-silence list (expected_of list k past) h.deviation (coming_place list past).slot past.ack
