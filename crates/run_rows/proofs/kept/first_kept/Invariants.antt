use Rattle.run_rows.specs.Kept.{AreKeptOf}
use Rattle.run_rows.proofs.kept.first_kept.Given as goal

-- that of the nodes so far
abbrev pub invariant-loop-node : goal.invariant-loop-node
invariant-loop-node l = AreKeptOf l.list l.script 0 l.node l.kept
