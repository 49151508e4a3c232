use Rattle.chart_text.proofs.Words.{refl, append_assoc}
use Rattle.chart_text.proofs.sum.put_told.Goals as goal

pub returns-clause-text : goal.returns-clause-text
returns-clause-text c =
    rw (c.put_looks_told.ensures.text, c.put_field.ensures.text, c.put_summed.ensures.text) (simp append_assoc refl)
