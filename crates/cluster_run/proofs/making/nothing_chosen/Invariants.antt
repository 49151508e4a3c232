use Rattle.cluster_run.proofs.Words.{◌≡◌, length}
use Rattle.cluster_run.proofs.making.nothing_chosen.Given as goal

abbrev pub invariant-loop : goal.invariant-loop
invariant-loop l = length l.chosen ≡ l.counter
