use Rattle.margin_runs.proofs.tried.try_each.Goals as goal

pub add_drifts-requires-clause-start : goal.add_drifts-requires-clause-start
add_drifts-requires-clause-start c = record { before = c.in_ok-start-in-None.ensures }
