use Rattle.wave_text.proofs.Words.{arith, node_value, node_code, node_variables, changes_by, unless_first}
use Rattle.wave_text.specs.declared.variable.NodeVariable.TheVariants as of_node
use Rattle.wave_text.proofs.Puts.{puts_at}
use Rattle.wave_text.proofs.change.put_each_change.Goals as goal

pub loop-variable-preserved : goal.loop-variable-preserved
loop-variable-preserved g c =
    puts_at
    (λ v. changes_by (node_value c.args.width v) (node_code v c.args.node)
    (unless_first c.args.is_first c.args.before.now)
    c.args.now.now)
    node_variables c.loop-variable.variable-index of_node.Sends (omega (arith, c.loop-variable-test.true))
    c.loop-variable.invariant c.put_node_change.ensures
