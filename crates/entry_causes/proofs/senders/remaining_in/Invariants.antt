use Rattle.std.proofs.Common.{◌≡◌, ◌&&◌, length, ltb}
use Rattle.std.specs.Prelude.{filter}
use Rattle.entry_causes.specs.Senders.{is_left_on}
use Rattle.run_rows.specs.Rows.{run_slot}
use Rattle.ttp_base.specs.NodeSet.{below}
use Rattle.entry_causes.proofs.senders.remaining_in.Given as goal

-- those of the first nodes
abbrev pub invariant-loop-node : goal.invariant-loop-node
invariant-loop-node l =
    l.remaining
    ≡ filter (λ j. ltb j l.node && is_left_on l.channel (run_slot l.run l.slot) j) (below (length l.run.list.slots))
