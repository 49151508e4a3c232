use Rattle.std.proofs.Common.{◌≡◌, false}
use Rattle.std.specs.List.{list_any}
use Rattle.entry_causes.specs.Hearing.{sends_joinable}
use Rattle.run_rows.specs.Rows.{run_slot}
use Rattle.ttp_base.specs.NodeSet.{below}
use Rattle.entry_causes.proofs.bus.has_joinable.Given as goal

-- none of the first nodes does
abbrev pub invariant-loop-node : goal.invariant-loop-node
invariant-loop-node l = list_any (sends_joinable (run_slot l.run l.slot)) (below l.node) ≡ false
