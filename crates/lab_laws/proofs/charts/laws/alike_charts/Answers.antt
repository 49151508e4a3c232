use Rattle.lab_laws.proofs.AlikeCharts.{same-charts}
use Rattle.lab_laws.proofs.charts.laws.alike_charts.Goals as goal

pub returns : goal.returns
returns c = λ one other asked alike. same-charts one other asked alike
