use Rattle.cluster_run.proofs.Words.{get_or, None, plan_at, nothing_chosen, SettlesFetch}
use Rattle.cluster_run.proofs.Changes.{AreBothChanged, AreChanged}
use Rattle.cluster_run.proofs.sending.settle_fetchers.Given as goal

abbrev pub invariant-loop-k : goal.invariant-loop-k
invariant-loop-k l = record {
  taken : AreChanged (λ j old new. Unit {0}) None l.k l.fn.fetchers.items l.fetchers.items;
  settled : AreBothChanged (λ j. SettlesFetch (plan_at l.list j).payload (get_or l.fn.fetchers.items j None)) None
      nothing_chosen l.k l.fn.ends.items l.ends.items l.fn.chosen l.chosen;
}
