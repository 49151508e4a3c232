use Rattle.theorems.proofs.Runs.{kept-run}
use Rattle.theorems.proofs.laws.kept_runs.Goals as goal

pub returns : goal.returns
returns c list script start numbers valid script_valid kept =
    kept-run list script start valid script_valid kept numbers
