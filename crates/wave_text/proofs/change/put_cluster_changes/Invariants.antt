use Rattle.wave_text.proofs.Words.{take, flat_map, cluster_value, cluster_letter, cluster_variables, changes_by, Puts}
use Rattle.wave_text.proofs.Words.{unless_first}
use Rattle.wave_text.proofs.change.put_cluster_changes.Given as goal

-- the changes so far were put
abbrev pub invariant-loop-variable : goal.invariant-loop-variable
invariant-loop-variable g l =
    Puts l.fn.page.sheet.failed (g.K.Sink.output l.fn.out) l.page.sheet.failed (g.K.Sink.output l.out)
    (flat_map (λ v. changes_by (cluster_value l.width v) (cluster_letter v) (unless_first l.is_first l.before) l.now)
    (take l.variable-index cluster_variables))
