use Rattle.ttp_base.specs.Outside.{WroteLines}
use Rattle.ttp_base.specs.Text.{lines_below}
use Rattle.ttp_world.specs.Script.{on_slot}
use Rattle.script_lines.specs.ScriptLines.{on_lines}
use Rattle.script_lines.proofs.put.put_all_on.Given as goal

-- the lines of the nodes so far were written
abbrev pub invariant-loop-node : goal.invariant-loop-node
invariant-loop-node g l =
    WroteLines (g.K.Sink.output l.fn.out) (g.K.Sink.output l.out)
    (lines_below (λ k. on_lines k (on_slot l.script k)) l.node)
