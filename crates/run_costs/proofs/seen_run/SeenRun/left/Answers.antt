use Rattle.run_costs.proofs.seen_run.SeenRun.left.Goals as goal

pub returns : goal.returns
returns c = λ script slots run. c.left.ensures script slots run.seen
