use Rattle.wave_text.proofs.Words.{map, take, node_declaration, node_variables, Puts}
use Rattle.wave_text.proofs.declare.put_node_declarations.Given as goal

-- the lines so far were put
abbrev pub invariant-loop-variable : goal.invariant-loop-variable
invariant-loop-variable g l =
    Puts l.fn.page.sheet.failed (g.K.Sink.output l.fn.out) l.page.sheet.failed (g.K.Sink.output l.out)
    (map (node_declaration l.width l.node) (take l.variable-index node_variables))
