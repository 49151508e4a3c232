use Rattle.std.proofs.Common.{◌≡◌, ◌++◌}
use Rattle.std.specs.Prelude.{filter}
use Rattle.causes.specs.LinesOf.{spots_in}
use Rattle.run_rows.specs.Rows.{run_slot}
use Rattle.ttp_base.specs.NodeSet.{below, has_node}
use Rattle.entry_causes.proofs.senders.add_spots.Given as goal

-- those of the first nodes
abbrev pub invariant-loop-node : goal.invariant-loop-node
invariant-loop-node l = record {
  lines : l.out.lines ≡ l.initial.out.lines;
  entries : l.out.entries
      ≡ l.initial.out.entries ++ spots_in (run_slot l.run l.slot) (filter (has_node l.nodes) (below l.node));
}
