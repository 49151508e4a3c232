use Rattle.std.proofs.Common.{◌-◌, filter, not, take}
use Rattle.std.specs.List.{flat_map}
use Rattle.causes.specs.Listening.{hears_nothing, silent_node}
use Rattle.causes.specs.Sources.{only_entries}
use Rattle.run_looks.specs.Added.{AddsSources}
use Rattle.run_rows.specs.Rows.{past_slots, run_slot}
use Rattle.ttp_base.specs.NodeSet.{below}
use Rattle.entry_causes.proofs.listening.add_silent_nodes.Given as goal

-- those of the first nodes
abbrev pub invariant-loop-other : goal.invariant-loop-other
invariant-loop-other l =
    AddsSources l.initial.out l.out (only_entries
    (flat_map (silent_node l.node (run_slot l.run l.slot) (past_slots l.run l.slot)
    (filter (λ u. not (hears_nothing l.node u)) (take (l.slot - l.from) (past_slots l.run l.slot)))) (below l.other)))
