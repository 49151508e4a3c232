use Rattle.wave_text.proofs.Words.{arith, cluster_declaration, cluster_variables}
use Rattle.wave_text.specs.declared.variable.ClusterVariable.TheVariants as of_cluster
use Rattle.wave_text.proofs.Puts.{puts_line_at}
use Rattle.wave_text.proofs.declare.put_cluster_declarations.Goals as goal

pub loop-variable-preserved : goal.loop-variable-preserved
loop-variable-preserved g c =
    puts_line_at (cluster_declaration c.args.width) cluster_variables c.loop-variable.variable-index of_cluster.Agree
    (omega (arith, c.loop-variable-test.true)) c.loop-variable.invariant
    c.make_cluster_declaration.ensures c.write.ensures
