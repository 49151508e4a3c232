use Rattle.fault_runs.proofs.Counts.{at_most-more}
use Rattle.fault_runs.proofs.tally.Tally.add.Goals as goal

pub returns-then-yes-clause-few : goal.returns-then-yes-clause-few
returns-then-yes-clause-few c = λ most are. record {
  kept = c.with_run-self.ensures.few most are.kept;
  broken = at_most-more most c.args.self.now.broken are.broken;
}

pub returns-else-yes-clause-few : goal.returns-else-yes-clause-few
returns-else-yes-clause-few c = λ most are. record {
  kept = at_most-more most c.args.self.now.kept are.kept;
  broken = c.with_run-self-else-yes.ensures.few most are.broken;
}
