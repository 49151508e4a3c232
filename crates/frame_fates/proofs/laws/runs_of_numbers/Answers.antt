use Rattle.frame_fates.proofs.NamedRuns.{named-run, legal-names}
use Rattle.frame_fates.proofs.laws.runs_of_numbers.Goals as goal

pub returns-clause-named : goal.returns-clause-named
returns-clause-named c = named-run

pub returns-clause-legal : goal.returns-clause-legal
returns-clause-legal c list script numbers valid legal =
    named-run list script numbers valid (legal-names list script numbers legal)
