use Rattle.chart_text.proofs.Words.{refl}
use Rattle.chart_text.proofs.element.make_look_cell.Goals as goal

pub returns : goal.returns
returns c =
    rw (
      c.close_cell.ensures,
      c.put_text-3.ensures,
      c.look_letter.ensures.text,
      c.close_wide_title.ensures.text,
      c.put_text-2.ensures,
      c.open_title.ensures.text,
      c.put_text.ensures,
      c.open_cell.ensures,
      c.look_text-name.ensures.text,
    ) refl
