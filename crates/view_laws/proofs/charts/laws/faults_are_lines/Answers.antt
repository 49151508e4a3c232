use Rattle.view_laws.proofs.FaultLines.{fault-lines}
use Rattle.view_laws.proofs.charts.laws.faults_are_lines.Goals as goal

pub returns : goal.returns
returns c = λ text campaign is. fault-lines text campaign is
