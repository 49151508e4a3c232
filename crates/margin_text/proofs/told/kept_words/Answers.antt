use Rattle.std.proofs.Common.{ap, sym, ◌∙◌, codes, decimal}
use Rattle.line_form.specs.Forms.{worded}
use Rattle.ttp_world.specs.declared.keep.Keep.{Keep}
use Rattle.ttp_world.specs.Trace.{keep_line}
use Rattle.campaign.specs.CostText.{unended}
use Rattle.margin_text.proofs.Words.{kept-yes, kept-no}
use Rattle.margin_text.proofs.told.kept_words.Goals as goal

pub returns-in-Yes : goal.returns-in-Yes
returns-in-Yes c =
    kept-yes c.in-Yes.start c.put_number.new.line
    (c.put_number.ensures.text
    ∙ (λ i. worded (c.new-words.ensures i) (codes "keeps yes start ") (decimal (c.from.ensures i))))
    ∙ ap (λ (k : Keep). unended (keep_line k)) (sym c.in-Yes.is)

pub returns-in-No : goal.returns-in-No
returns-in-No c =
    kept-no c.in-No.rule c.in-No.slot c.put_number-in-No.new.line c.put_number-in-No-2.new.line
    (c.put_number-in-No.ensures.text
    ∙ (λ i. worded (c.new-words.ensures i) (codes "keeps no H") (decimal (c.from-in-No.ensures i))))
    (c.put_number-in-No-2.ensures.text
    ∙ (λ i. worded c.put_number-in-No.new.line (codes " ") (decimal (c.from-in-No-2.ensures i))))
    ∙ ap (λ (k : Keep). unended (keep_line k)) (sym c.in-No.is)
