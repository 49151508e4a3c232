use Rattle.std.specs.Prelude.{◌+◌}
use Rattle.run_rows.specs.Kept.{AreKeptOf}
use Rattle.run_rows.proofs.kept.all_kept_after.Given as goal

-- that of the nodes so far
abbrev pub invariant-loop-node : goal.invariant-loop-node
invariant-loop-node l = AreKeptOf l.list l.script (l.slot + 1) l.node l.after
