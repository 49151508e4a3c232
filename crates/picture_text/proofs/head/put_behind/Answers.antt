use Rattle.picture_text.proofs.Words.{◌+◌, refl, append_assoc}
use Rattle.std.proofs.lemmas.Bool.{ne_eqb}
use Rattle.picture_text.proofs.head.put_behind.Goals as goal

pub returns-then-last-slots-clause-text : goal.returns-then-last-slots-clause-text
returns-then-last-slots-clause-text c =
    rw (
      ne_eqb (c.args.last + 1) c.args.slots c.if-last-slots.true,
      c.put_field-then-last-slots.ensures.text,
      c.from-then-last-slots.ensures,
      c.put_field.ensures.text,
      c.from.ensures,
    ) (simp append_assoc refl)
