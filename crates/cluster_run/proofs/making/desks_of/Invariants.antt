use Rattle.cluster_run.proofs.Words.{desk_ends}
use Rattle.cluster_run.proofs.NewNodes.{AreMade}
use Rattle.cluster_run.proofs.making.desks_of.Given as goal

abbrev pub invariant-loop-k : goal.invariant-loop-k
invariant-loop-k l = AreMade l.list l.k (desk_ends l.desks) l.host_ends
