use Rattle.std.proofs.Common.{◌≡◌, ◌&&◌, filter, map, not}
use Rattle.causes.specs.Said.{said}
use Rattle.causes.specs.Sources.{only_entries}
use Rattle.run_looks.specs.Added.{AddsSources}
use Rattle.run_rows.specs.Rows.{past_slots}
use Rattle.ttp_base.specs.NodeSet.{below, has_node}
use Rattle.entry_causes.proofs.own.add_lacked.Given as goal

-- those of the first nodes
abbrev pub invariant-loop-member : goal.invariant-loop-member
invariant-loop-member l = record {
  lacked : l.lacked ≡ filter (λ j. has_node l.told j && not (has_node l.sent j)) (below l.member);
  adds : AddsSources l.initial.out l.out
      (only_entries
      (map (λ j. said l.sender j (past_slots l.run l.before))
      (filter (λ j. has_node l.told j && not (has_node l.sent j)) (below l.member))));
}
