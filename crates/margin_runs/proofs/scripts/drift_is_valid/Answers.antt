use Rattle.margin_runs.proofs.Drifts.{drift-valid}
use Rattle.margin_runs.proofs.scripts.drift_is_valid.Goals as goal

pub returns : goal.returns
returns c = λ node value inside within. drift-valid c.args.list.now c.args.script.now node value c.requires within
