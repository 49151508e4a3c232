use Rattle.picture_text.proofs.Words.{append_assoc, refl}
use Rattle.picture_text.proofs.head.put_more.Goals as goal

pub returns-in-Some-clause-text : goal.returns-in-Some-clause-text
returns-in-Some-clause-text c = rw (c.in-Some.is, c.put_field.ensures.text, c.from.ensures) (simp append_assoc refl)
