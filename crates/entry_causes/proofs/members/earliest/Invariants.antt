use Rattle.std.proofs.Common.{◌≡◌, ◌<◌, IfSome, filter, length, map, option_map}
use Rattle.causes.specs.Members.{difference_of}
use Rattle.entry_causes.specs.Differences.{difference_shown, said_first}
use Rattle.run_rows.specs.Rows.{past_slots}
use Rattle.ttp_base.specs.NodeSet.{below, has_node}
use Rattle.entry_causes.proofs.members.earliest.Given as goal

-- of the first nodes
abbrev pub invariant-loop-member : goal.invariant-loop-member
invariant-loop-member l = record {
  value : option_map difference_shown l.first
      ≡ said_first
      (map (λ j. difference_of l.sender l.node (past_slots l.run l.before) (has_node l.sent j) j)
      (filter (has_node l.telling) (below l.member)));
  holds : IfSome l.first (λ d. d.holds < length l.run.list.slots);
}
