use Rattle.std.proofs.Common.{◌≡◌}
use Rattle.std.specs.Prelude.{filter, IfSome}
use Rattle.ttp_base.specs.NodeSet.{below, has_node}
use Rattle.hypothesis.specs.Standing.{told_start}
use Rattle.hypothesis.specs.Walks.{all_in}
use Rattle.broken_faults.specs.Faults.{newest_fault}
use Rattle.broken_faults.specs.Seen.{told_fault, IsFault}
use Rattle.broken_faults.proofs.few.newest_jump.Given as goal

-- the newest of the nodes so far
abbrev pub invariant-loop-node : goal.invariant-loop-node
invariant-loop-node l = record {
  told : told_fault l.newest
      ≡ newest_fault (told_fault l.fn.before) (all_in l.slot (filter (has_node l.faults.jumped) (below l.node)));
  known : IfSome l.newest (IsFault l.list l.script (told_start l.start));
}
