use Rattle.wave_text.proofs.Words.{lines_below, unless_first, scope_changes, Puts}
use Rattle.wave_text.proofs.slot.put_scopes.Given as goal

-- the changes so far were put
abbrev pub invariant-loop-node : goal.invariant-loop-node
invariant-loop-node g l =
    Puts l.fn.page.sheet.failed (g.K.Sink.output l.fn.out) l.page.sheet.failed (g.K.Sink.output l.out)
    (lines_below (scope_changes l.width l.ports (unless_first l.is_first l.before.slot) l.now.slot) l.node)
