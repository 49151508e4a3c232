use Rattle.chart_text.proofs.Words.{refl}
use Rattle.chart_text.proofs.listed.make_look_number.Goals as goal

pub returns : goal.returns
returns c =
    rw (
      c.close_cell.ensures,
      c.put_number.ensures,
      c.from.ensures,
      c.close_wide_title.ensures.text,
      c.put_text-2.ensures,
      c.open_title.ensures.text,
      c.put_text.ensures,
      c.open_cell.ensures,
    ) refl
