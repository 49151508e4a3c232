use Rattle.ttp_base.specs.Outside.{WroteLines}
use Rattle.ttp_base.specs.Text.{lines_below}
use Rattle.ttp_world.specs.Script.{drift_of}
use Rattle.script_lines.specs.ScriptLines.{drift_lines}
use Rattle.script_lines.proofs.put.put_all_drifts.Given as goal

-- the lines of the nodes so far were written
abbrev pub invariant-loop-node : goal.invariant-loop-node
invariant-loop-node g l =
    WroteLines (g.K.Sink.output l.fn.out) (g.K.Sink.output l.out)
    (lines_below (λ k. drift_lines k (drift_of l.script k)) l.node)
