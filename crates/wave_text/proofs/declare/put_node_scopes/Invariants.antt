use Rattle.wave_text.proofs.Words.{lines_below, node_scope, Puts}
use Rattle.wave_text.proofs.declare.put_node_scopes.Given as goal

-- the scopes so far were put
abbrev pub invariant-loop-node : goal.invariant-loop-node
invariant-loop-node g l =
    Puts l.fn.page.sheet.failed (g.K.Sink.output l.fn.out) l.page.sheet.failed (g.K.Sink.output l.out)
    (lines_below (node_scope l.width l.ports) l.node)
