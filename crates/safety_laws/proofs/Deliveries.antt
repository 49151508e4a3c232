-- What an active node delivers of a frame that it judged correct.
use Rattle.safety_laws.proofs.Words.{◌≡◌, ℕ, ℤ, false, cond, List, Some, None, refl, ap, sym, ◌∙◌, IsTrue, Medl, Ack}
use Rattle.safety_laws.proofs.Words.{ChannelView, carries_payload, verdict_entry, payload_taken, delivery, SentFrame}
use Rattle.safety_laws.proofs.Words.{Signal, Silence, Noise, Bits, Expected, Hearing, expected_of, view_of_bits}
use Rattle.safety_laws.proofs.Words.{view_of, verdict_of_view, payload_of_frame, delivery_at, is_frameless, HearsFrame}
use Rattle.safety_laws.proofs.Words.{OnBoth, OnA, OnB, NodeSlot, entry_made, owner_of, IsJudging}
use Rattle.ttp_world.specs.declared.node.Ack.TheVariants as ack
use Rattle.ttp_world.specs.declared.node.ChannelView.TheVariants as view
use Rattle.ttp_world.specs.declared.node.Entry.TheVariants as entry
use Rattle.ttp_world.specs.declared.node.Verdict.TheVariants as verdict
use Rattle.ttp_world.specs.Reception.{payload_heard, is_first_view}
use Rattle.safety_laws.specs.NodeSlot.{slot_place}
use Rattle.safety_laws.proofs.Judging.{judging_entry-frame}
use Rattle.safety_laws.proofs.Verdicts.{entry_made-judging}

-- bits that are judged correct were seen as the first candidate's
first-view : (owner : ℕ) (v : ChannelView) (a : Ack) (d e : ℤ)
    → verdict_entry owner (verdict_of_view v a) d ≡ entry.Judged owner verdict.Correct e → v ≡ view.First
first-view owner view.First a d e is = refl
first-view owner view.Second ack.Closed d e is = cc
first-view owner view.Second ack.First d e is = cc
first-view owner view.Second (ack.Doubt y) d e is = cc
first-view owner view.Other a d e is = cc
first-view owner view.Bad a d e is = cc
first-view owner view.Silent a d e is = cc

frameless-view : (list : Medl) (expected : Expected) (deviation : ℕ → ℤ) (s : Signal) → IsTrue (is_frameless s)
    → is_first_view (view_of list expected deviation s) ≡ false
frameless-view list expected deviation Silence none = refl
frameless-view list expected deviation Noise none = refl
frameless-view list expected deviation (Bits p bytes) none = cc

-- their payload is taken, from the channel on which they came
taken-frame : (list : Medl) (expected : Expected) (h : Hearing) (sent : SentFrame) → HearsFrame sent h
    → view_of_bits list expected sent.bytes (h.deviation sent.sender) ≡ view.First
    → payload_taken list expected h ≡ payload_of_frame list expected.place sent.bytes
taken-frame list expected h sent hears first = by hears
  where
    on-a : h.a ≡ Bits sent.sender sent.bytes
        → payload_taken list expected h ≡ payload_of_frame list expected.place sent.bytes
    on-a heard =
        ap (λ b. cond b (payload_heard list expected.place h.a) (payload_heard list expected.place h.b))
        (ap (λ (s : Signal). is_first_view (view_of list expected h.deviation s)) heard ∙ ap is_first_view first)
        ∙ ap (payload_heard list expected.place) heard

    by : HearsFrame sent h → payload_taken list expected h ≡ payload_of_frame list expected.place sent.bytes
    by (OnBoth on_a on_b) = on-a on_a
    by (OnA on_a none) = on-a on_a
    by (OnB none on_b) =
        ap (λ b. cond b (payload_heard list expected.place h.a) (payload_heard list expected.place h.b))
        (frameless-view list expected h.deviation h.a none) ∙ ap (payload_heard list expected.place) on_b

pub delivers-correct : (x : NodeSlot) (sent : SentFrame) (deviation : ℤ) → IsJudging x → HearsFrame sent x.hearing
    → entry_made x ≡ entry.Judged (owner_of x) verdict.Correct deviation
    → delivery x.list x.node x.past x.hearing (entry_made x) ≡ delivery_at x.list (slot_place x) sent.bytes
delivers-correct x sent deviation is hears correct =
    let expected = expected_of x.list x.node x.past in
    let first =
    first-view (owner_of x) (view_of_bits x.list expected sent.bytes (x.hearing.deviation sent.sender)) x.past.ack
    (x.hearing.deviation sent.sender) deviation
    (sym (judging_entry-frame x.list x.node x.past x.hearing sent hears) ∙ sym (entry_made-judging x is) ∙ correct) in
    ap (delivery x.list x.node x.past x.hearing) correct
    ∙ ap (λ (payload : List ℕ). cond (carries_payload x.list (slot_place x))
    (Some (record { sender = owner_of x; payload = payload })) None)
    (taken-frame x.list expected x.hearing sent hears first)
