use Rattle.chart_text.proofs.Words.{refl}
use Rattle.chart_text.proofs.element.make_pole.Goals as goal

pub returns : goal.returns
returns c =
    rw (
      c.put_text-3.ensures,
      c.put_field-3.ensures.text,
      c.put_field-2.ensures.text,
      c.put_field.ensures.text,
      c.put_text-2.ensures,
      c.put_text.ensures,
      c.clear.ensures,
    ) refl
