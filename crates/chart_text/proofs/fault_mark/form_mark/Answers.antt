use Rattle.chart_text.proofs.Words.{refl}
use Rattle.chart_text.proofs.fault_mark.form_mark.Goals as goal

pub returns-clause-text : goal.returns-clause-text
returns-clause-text c =
    rw (
      c.put_bytes-3.ensures.text,
      c.bytes-2.ensures,
      c.close_mark.ensures,
      c.clear-2.ensures,
      c.put_bytes-2.ensures.text,
      c.put_bytes.ensures.text,
      c.bytes.ensures,
      c.clear.ensures.text,
      c.open_mark.ensures.text,
    ) refl
