use Rattle.wave_text.proofs.Words.{unless_first, scope_changes, puts_below}
use Rattle.wave_text.proofs.slot.put_scopes.Goals as goal

pub loop-node-preserved : goal.loop-node-preserved
loop-node-preserved g c =
    puts_below _ _ _ _ _ _
    (scope_changes c.args.width c.args.ports.now
    (unless_first c.args.is_first c.args.before.now.slot) c.args.now.now.slot)
    c.loop-node.node c.loop-node.invariant c.put_scope_changes.ensures
