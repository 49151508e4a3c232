-- Channel B is judged where channel A is not seen as the first candidate.
use Rattle.controller.proofs.Words.{sym, ◌∙◌, w64, rules, to_z-of_z, awaited_meant, hearing_of}
use Rattle.controller.proofs.Heard.{IsJudgement-first}
use Rattle.controller.proofs.hearing.judged_by.Goals as goal

pub returns-then-is_first_view-clause-judgement : goal.returns-then-is_first_view-clause-judgement
returns-then-is_first_view-clause-judgement c sent_a sent_b clock shows_a shows_b =
    rw (to_z-of_z w64 c.unwrap_or.result (search rules))
    (IsJudgement-first c.args.list.now (awaited_meant c.args.expected.now) c.args.ack
    (hearing_of sent_a sent_b clock c.args.reading.now.own c.args.reading.now.error) c.see-on_a.result
    c.unwrap_or.result (c.see-on_a.ensures.seen sent_a clock shows_a)
    (sym c.is_first_view.ensures ∙ c.if-is_first_view.true) c.unwrap_or.ensures)

pub returns-clause-judgement : goal.returns-clause-judgement
returns-clause-judgement c sent_a sent_b clock shows_a shows_b =
    let is_a = c.see-on_a.ensures.seen sent_a clock shows_a in
    let is_b = c.see-on_b.ensures.seen sent_b clock shows_b in
    rw (to_z-of_z w64 c.entry_deviation.result (search rules)) (record {
      verdict = search (rules, is_a.view, is_b.view);
      deviation = search (rules, is_a.view, is_b.view, is_a.deviation, is_b.deviation);
      from_a = search (rules, is_a.view);
    })
