use Rattle.theorems.proofs.Runs.{back-run}
use Rattle.theorems.proofs.laws.back_runs.Goals as goal

pub returns : goal.returns
returns c list script start numbers valid script_valid kept =
    back-run list script start valid script_valid kept numbers
