use Rattle.chart_text.proofs.Words.{refl}
use Rattle.chart_text.proofs.head.make_svg.Goals as goal

pub returns : goal.returns
returns c =
    rw (c.put_text.ensures, c.put_field-2.ensures.text, c.put_field.ensures.text, c.clear.ensures) refl
