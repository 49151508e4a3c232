use Rattle.uses.proofs.bench.ask.ask.Goals as goal

pub returns-clause-answered : goal.returns-clause-answered
returns-clause-answered g c = record {
  kept = c.bench-status.new.kept;
  promise = c.bench-status.ensures.promise;
  of_run = c.bench-status.ensures.run;
  of_keeps = c.bench-status.ensures.keeps;
  of_verify = c.bench-status.ensures.verify;
}

pub returns-clause-faults : goal.returns-clause-faults
returns-clause-faults g c = c.bench-status.ensures.promise.call.counts.0.all
