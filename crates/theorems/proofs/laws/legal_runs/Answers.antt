use Rattle.theorems.proofs.Runs.{some-run}
use Rattle.theorems.proofs.laws.legal_runs.Goals as goal

pub returns : goal.returns
returns c list script valid script_valid = some-run list script
