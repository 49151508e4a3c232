use Rattle.wave_text.proofs.Words.{arith, node_declaration, node_variables}
use Rattle.wave_text.specs.declared.variable.NodeVariable.TheVariants as of_node
use Rattle.wave_text.proofs.Puts.{puts_line_at}
use Rattle.wave_text.proofs.declare.put_node_declarations.Goals as goal

pub loop-variable-preserved : goal.loop-variable-preserved
loop-variable-preserved g c =
    puts_line_at (node_declaration c.args.width c.args.node) node_variables c.loop-variable.variable-index of_node.Sends
    (omega (arith, c.loop-variable-test.true)) c.loop-variable.invariant c.make_node_declaration.ensures c.write.ensures
