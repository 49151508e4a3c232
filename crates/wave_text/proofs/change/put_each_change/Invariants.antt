use Rattle.wave_text.proofs.Words.{take, flat_map, node_value, node_code, node_variables}
use Rattle.wave_text.proofs.Words.{changes_by, Puts, unless_first}
use Rattle.wave_text.proofs.change.put_each_change.Given as goal

-- the changes so far were put
abbrev pub invariant-loop-variable : goal.invariant-loop-variable
invariant-loop-variable g l =
    Puts l.fn.page.sheet.failed (g.K.Sink.output l.fn.out) l.page.sheet.failed (g.K.Sink.output l.out)
    (flat_map (λ v. changes_by (node_value l.width v) (node_code v l.node) (unless_first l.is_first l.before) l.now)
    (take l.variable-index node_variables))
