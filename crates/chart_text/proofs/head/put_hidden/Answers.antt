use Rattle.chart_text.proofs.Words.{append_assoc, refl}
use Rattle.chart_text.proofs.head.put_hidden.Goals as goal

pub returns-in-Some-clause-text : goal.returns-in-Some-clause-text
returns-in-Some-clause-text c =
    rw (c.in-Some.is, c.put_text.ensures, c.put_field.ensures.text, c.from.ensures) (simp append_assoc refl)
