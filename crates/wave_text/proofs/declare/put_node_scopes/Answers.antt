use Rattle.wave_text.proofs.Words.{node_scope, puts_below}
use Rattle.wave_text.proofs.declare.put_node_scopes.Goals as goal

pub loop-node-preserved : goal.loop-node-preserved
loop-node-preserved g c =
    puts_below _ _ _ _ _ _ (node_scope c.args.width c.args.ports.now) c.loop-node.node c.loop-node.invariant
    c.put_node_scope.ensures
