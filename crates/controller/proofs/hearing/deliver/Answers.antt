-- A correct frame delivers the payload of the channel that the judgement names.
use Rattle.controller.proofs.Words.{◌≡◌, ℕ, List, ap, sym, ◌∙◌, rules, Bor, coming_place, hearing_of, payload_taken}
use Rattle.ttp_world.specs.declared.node.Verdict.TheVariants.{Correct}
use Rattle.ttp_world.specs.Reception.{expected_of, verdict_of, view_of}
use Rattle.controller.proofs.Heard.{carries_some}
use Rattle.controller.proofs.hearing.deliver.Goals.{then-judgement, else-judgement}
use Rattle.controller.proofs.hearing.deliver.Goals as goal

pub returns : goal.returns
returns c k past own error coming sent_a sent_b clock shows_a shows_b is =
    let list = c.args.list.now in
    let h = hearing_of sent_a sent_b clock own error in
    let correct : c.args.judgement.now.verdict ≡ Correct = search rules in
    let place = c.args.receiver.now.coming.place in
    let form = c.form_of-form.ensures in
    let taken : c.if-judgement.payload.now ≡ payload_taken list (expected_of list k past) h =
    elim c.if-judgement.branch [
      | then-judgement w ↦ search (
        rules,
        sym is.from_a ∙ w.if-judgement.true,
        coming.place,
        ap (λ (p : Bor (List ℕ)). p.now) w.payload-is
            ∙ w.payload_heard-payload.ensures.value list place own error form sent_a clock shows_a,
      )
      | else-judgement w ↦ search (
        rules,
        sym is.from_a ∙ w.if-judgement.false,
        coming.place,
        ap (λ (p : Bor (List ℕ)). p.now) w.payload-is
            ∙ w.payload_heard-payload-else-judgement.ensures.value list place own error form sent_b clock shows_b,
      )
    ] in
    let view_a = view_of list (expected_of list k past) h.deviation h.a in
    let view_b = view_of list (expected_of list k past) h.deviation h.b in
    let verdict : verdict_of view_a view_b past.ack ≡ Correct = sym is.verdict ∙ correct in
    let carries = sym (carries_some list place (coming_place list past) c.form_of-form.result.payload
    c.if-form-eq0.false form.payload coming.place) in
    search (rules, verdict, carries, taken, coming.place)
