use Rattle.wave_text.proofs.Words.{map, take, cluster_declaration, cluster_variables, Puts}
use Rattle.wave_text.proofs.declare.put_cluster_declarations.Given as goal

-- the lines so far were put
abbrev pub invariant-loop-variable : goal.invariant-loop-variable
invariant-loop-variable g l =
    Puts l.fn.page.sheet.failed (g.K.Sink.output l.fn.out) l.page.sheet.failed (g.K.Sink.output l.out)
    (map (cluster_declaration l.width) (take l.variable-index cluster_variables))
