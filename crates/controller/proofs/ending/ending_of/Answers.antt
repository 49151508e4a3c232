use Rattle.controller.proofs.Words.{refl, sym, ◌∙◌}
use Rattle.controller.proofs.Heard.{listening-none}
use Rattle.controller.proofs.ending.ending_of.Goals as goal

pub returns-in-Listen-clause-ends : goal.returns-in-Listen-clause-ends
returns-in-Listen-clause-ends c = rw c.in-Listen.is (λ chosen is sent_a sent_b clock shows_a shows_b. record {
  entry = c.listening_entry.ensures sent_a sent_b clock shows_a shows_b;
  delivered = c.take_away.ensures ∙ sym (listening-none c.args.list.now c.args.k c.args.node.now _);
})

pub returns-in-Judge-clause-ends : goal.returns-in-Judge-clause-ends
returns-in-Judge-clause-ends c = rw c.in-Judge.is (λ chosen is. c.judged.ensures.ends chosen refl)
