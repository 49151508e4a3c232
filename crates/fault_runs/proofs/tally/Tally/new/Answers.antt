use Rattle.fault_runs.proofs.tally.Tally.new.Goals as goal

pub returns-clause-few : goal.returns-clause-few
returns-clause-few c = record { kept = c.no_counts.ensures.few; broken = c.no_counts-2.ensures.few }

pub returns-clause-counts : goal.returns-clause-counts
returns-clause-counts c = λ list own. record {
  kept = c.no_counts.ensures.counts list own;
  broken = c.no_counts-2.ensures.counts list own;
}
