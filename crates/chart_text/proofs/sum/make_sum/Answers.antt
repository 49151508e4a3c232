use Rattle.chart_text.proofs.Words.{refl}
use Rattle.chart_text.proofs.sum.make_sum.Goals as goal

pub returns : goal.returns
returns c =
    rw (
      c.close_cell.ensures,
      c.put_worst.ensures.text,
      c.close_wide_title.ensures.text,
      c.put_told.ensures.text,
      c.open_title.ensures.text,
      c.put_text-2.ensures,
      c.put_text.ensures,
      c.worst_class.ensures.text,
      c.open_cell.ensures,
    ) refl
