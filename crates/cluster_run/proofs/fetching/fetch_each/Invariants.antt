use Rattle.cluster_run.proofs.Sends.{HaveFetched}
use Rattle.cluster_run.proofs.fetching.fetch_each.Given as goal

abbrev pub invariant-loop-k : goal.invariant-loop-k
invariant-loop-k g l = HaveFetched l.list l.seats l.k l.fn.ends l.ends l.fn.chosen l.chosen
