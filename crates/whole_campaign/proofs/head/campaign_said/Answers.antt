use Rattle.std.proofs.Common.{subst}
use Rattle.line_form.specs.Forms.{Values}
use Rattle.whole_campaign.proofs.FromBelow.{ReadAs, read_word, read_none}
use Rattle.whole_campaign.specs.Runs.{campaign_form, campaign_said}
use Rattle.whole_campaign.proofs.LineSteps.{closes_said}
use Rattle.whole_campaign.proofs.head.campaign_said.Goals as goal

pub returns : goal.returns
returns c =
    let vs : Values campaign_form =
    (c.byte-nodes.result, (c.number-slots.result, (c.number-first.result, (c.number-last.result, tt)))) in
    closes_said campaign_form campaign_said c.args.bytes.now _ vs c.close.result c.close.ensures
    (subst (λ before. ReadAs campaign_form before c.number-last.new.self vs) c.of-line.ensures
    (read_word _ _ _ _ _ _ _ _ c.byte-nodes.ensures.value c.byte-nodes.ensures.left
    (read_word _ _ _ _ _ _ _ _ c.number-slots.ensures.value c.number-slots.ensures.left
    (read_word _ _ _ _ _ _ _ _ c.number-first.ensures.value c.number-first.ensures.left
    (read_word _ _ _ _ _ _ _ _ c.number-last.ensures.value c.number-last.ensures.left (read_none _))))))
