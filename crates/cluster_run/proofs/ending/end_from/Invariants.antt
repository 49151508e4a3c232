use Rattle.cluster_run.proofs.Words.{outcomes_of}
use Rattle.cluster_run.proofs.HandingOn.{AreHandedOn}
use Rattle.cluster_run.proofs.ending.end_from.Given as goal

abbrev pub invariant-loop-j : goal.invariant-loop-j
invariant-loop-j g l = AreHandedOn (outcomes_of l.seats) l.j l.initial.desks l.desks
