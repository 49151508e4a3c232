use Rattle.wave_text.proofs.Words.{arith, cluster_value, cluster_letter, cluster_variables, changes_by, unless_first}
use Rattle.wave_text.specs.declared.variable.ClusterVariable.TheVariants as of_cluster
use Rattle.wave_text.proofs.Puts.{puts_at}
use Rattle.wave_text.proofs.change.put_cluster_changes.Goals as goal

pub loop-variable-preserved : goal.loop-variable-preserved
loop-variable-preserved g c =
    puts_at
    (λ v. changes_by (cluster_value c.args.width v) (cluster_letter v) (unless_first c.args.is_first c.args.before.now)
    c.args.now.now)
    cluster_variables c.loop-variable.variable-index of_cluster.Agree (omega (arith, c.loop-variable-test.true))
    c.loop-variable.invariant c.put_cluster_change.ensures
