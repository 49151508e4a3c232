use Rattle.std.proofs.Common.{◌≡◌, ◌∷◌, List, length, map}
use Rattle.ttp_base.specs.NodeSet.{below}
use Rattle.ttp_base.specs.Outside.{WroteLines}
use Rattle.ttp_world.specs.declared.node.Entry.{Entry}
use Rattle.ttp_world.specs.declared.script.Script.{Script}
use Rattle.ttp_world.specs.Diary.{History}
use Rattle.mode_change.specs.Knowing.{KnowAll}
use Rattle.mode_change.specs.ModeText.{mode_line_of}
use Rattle.mode_change.proofs.put.put_nodes.Given as goal

-- the lines of the nodes so far were written
abbrev pub invariant-loop-node : goal.invariant-loop-node
invariant-loop-node g l =
    (script : Script) (row : List Entry) (history : History) → l.slot ≡ length history
    → KnowAll l.nodes l.list script (row ∷ history)
    → WroteLines (g.K.Sink.output l.fn.out) (g.K.Sink.output l.out)
    (map (mode_line_of l.list script row history) (below l.node))
