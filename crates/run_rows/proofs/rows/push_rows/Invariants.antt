use Rattle.std.proofs.Common.{◌≡◌, ◌++◌, map}
use Rattle.run_rows.specs.Rows.{node_row, slot_in}
use Rattle.ttp_base.specs.NodeSet.{below}
use Rattle.run_rows.proofs.rows.push_rows.Given as goal

-- those of the nodes so far
abbrev pub invariant-loop-node : goal.invariant-loop-node
invariant-loop-node l =
    l.rows ≡ l.initial.rows ++ map (λ k. node_row k (slot_in l.list l.script l.slot)) (below l.node)
