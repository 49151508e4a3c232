use Rattle.chart_text.proofs.fault_mark.make_fault_mark.Goals as goal

pub returns-clause-text : goal.returns-clause-text
returns-clause-text c =
    rw (c.look_text.ensures.text, c.mark_corner-at.ensures.x, c.mark_corner-at.ensures.y)
    at c.form_mark.ensures.text
