use Rattle.chart_text.proofs.Words.{◌+◌, ◌*◌, map, get_or, below, Puts, look_cell, looks}
use Rattle.chart_text.specs.declared.look.Look.TheVariants as look
use Rattle.chart_text.proofs.table.put_part_head.Given as goal

-- the cells so far were put
abbrev pub invariant-loop-number : goal.invariant-loop-number
invariant-loop-number g l =
    Puts l.fn.sheet.failed (g.K.Sink.output l.fn.out) l.sheet.failed (g.K.Sink.output l.out)
    (map (λ i. look_cell (get_or looks i look.Same) (l.x + 133 + 30 * i) (l.top + 330)) (below l.number))
