use Rattle.std.proofs.Common.{ℤ, ap, ◌∙◌, rules}
use Rattle.line_form.specs.Forms.{closed_line}
use Rattle.whole_campaign.proofs.FromBelow.{closing}
use Rattle.whole_campaign.specs.Faults.{jump_form, jump_told}
use Rattle.whole_campaign.proofs.LineSteps.{closes_said}
use Rattle.whole_campaign.proofs.fault.jump_words_in.Goals as goal

pub returns : goal.returns
returns c =
    let node = c.byte-node.result in
    let slot = c.number-slot.result in
    closes_said jump_form jump_told c.args.words.now _ (node, (c.signed-value.result, (slot, tt))) c.close.result
    (c.close.ensures
    ∙ ap (λ (z : ℤ). closed_line c.number-slot.new.self (jump_told (node, (z, (slot, tt))))) (search rules))
    (search (closing, rules) depth 40 fits 100000)
