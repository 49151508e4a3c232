use Rattle.controller.proofs.Words.{◌∙◌}
use Rattle.controller.proofs.ending.judged.Goals as goal

pub returns-clause-ends : goal.returns-clause-ends
returns-clause-ends c = λ chosen is sent_a sent_b clock shows_a shows_b.
    let k = c.args.k in
    let past = c.args.node.now in
    let received = c.receiver_of-receiver.ensures in
    let judgement = c.judging-judgement.ensures.judgement past received.receives sent_a sent_b clock shows_a shows_b in
    let judged = rw received.number at judgement in
    let sender = c.sender.ensures.value ∙ (λ i. (received.receives.coming.place i).slot) in
    record {
      entry = c.judged_entry.ensures.judging c.args.list.now k past _ sender judged;
      delivered = c.deliver.ensures k past c.args.reading.now.own
          c.args.reading.now.error received.receives.coming sent_a sent_b clock shows_a shows_b judged;
    }
