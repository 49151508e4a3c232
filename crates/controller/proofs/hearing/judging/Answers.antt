-- The receiver's parts are those of the node's past.
use Rattle.controller.proofs.Words.{hearing_of}
use Rattle.controller.proofs.Heard.{IsJudgement-received}
use Rattle.controller.proofs.hearing.judging.Goals as goal

pub returns-clause-judgement : goal.returns-clause-judgement
returns-clause-judgement c past is sent_a sent_b clock shows_a shows_b =
    IsJudgement-received c.args.list.now past c.args.receiver.now
    (hearing_of sent_a sent_b clock c.args.reading.now.own c.args.reading.now.error) c.judged_by.result _ c.value.result
    is c.expected_of-expected.ensures.value c.value.ensures.value
    (c.judged_by.ensures.judgement sent_a sent_b clock shows_a shows_b)
