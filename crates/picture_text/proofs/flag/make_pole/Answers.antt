use Rattle.picture_text.proofs.Words.{refl}
use Rattle.picture_text.proofs.flag.make_pole.Goals as goal

pub returns : goal.returns
returns c =
    rw (
      c.put_text.ensures,
      c.put_field-3.ensures.text,
      c.from.ensures,
      c.put_field-2.ensures.text,
      c.row_y.ensures.value,
      c.put_field.ensures.text,
      c.column_x.ensures.value,
      c.clear.ensures,
    ) refl
