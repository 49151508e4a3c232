use Rattle.picture_text.proofs.Words.{append_assoc, refl, arith}
use Rattle.std.proofs.lemmas.Bool.{ne_eqb}
use Rattle.ttp_base.proofs.Room.{room}
use Rattle.picture_text.proofs.head.put_before.Goals as goal

pub put_text-requires : goal.put_text-requires
put_text-requires c = grind (arith, room)

pub put_field-requires : goal.put_field-requires
put_field-requires c = grind (arith, room)

pub returns-then-quiet-clause-short : goal.returns-then-quiet-clause-short
returns-then-quiet-clause-short c = grind (arith, room)

pub returns-else-quiet-clause-short : goal.returns-else-quiet-clause-short
returns-else-quiet-clause-short c = grind (arith, room)

pub returns-else-quiet-clause-text : goal.returns-else-quiet-clause-text
returns-else-quiet-clause-text c =
    rw (
      ne_eqb c.args.first 0 c.if-first-eq0.false,
      c.if-quiet.false,
      c.put_field.ensures.text,
      c.from.ensures,
    ) (simp append_assoc refl)
