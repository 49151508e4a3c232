use Rattle.std.proofs.Common.{◌≡◌, take}
use Rattle.ttp_base.specs.Outside.{WroteLines}
use Rattle.trace_text.specs.ReportText.{node_texts}
use Rattle.trace_text.proofs.slot.put_nodes.Given as goal

-- the lines of this slot are formed, and those of the nodes so far were written
abbrev pub invariant-loop-node : goal.invariant-loop-node
invariant-loop-node g l =
    (l.lines ≡ l.slot)
    × WroteLines (g.K.Sink.output l.fn.out) (g.K.Sink.output l.out) (take l.node (node_texts l.list l.slot 0 l.nodes))
