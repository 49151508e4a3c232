use Rattle.ttp_top.proofs.Samples.Counted.{none_counted}
use Rattle.ttp_top.proofs.totals.count_run.Goals as goal

pub returns-clause-ok : goal.returns-clause-ok
returns-clause-ok g c =
    c.in_ok-run.ensures.ok tt (rw c.new-totals.ensures (none_counted c.args.cluster.now c.requires.new))
