use Rattle.theorems.proofs.Runs.{faced-run}
use Rattle.theorems.proofs.laws.faced_runs.Goals as goal

pub returns : goal.returns
returns c list script node start numbers valid script_valid is =
    faced-run list script node start valid script_valid is numbers
