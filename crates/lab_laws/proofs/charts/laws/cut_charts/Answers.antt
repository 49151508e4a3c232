use Rattle.lab_laws.proofs.AlikeCharts.{same-charts}
use Rattle.lab_laws.proofs.JoinedRanges.{joined-alike, texts-alike}
use Rattle.lab_laws.proofs.charts.laws.cut_charts.Goals as goal

pub returns : goal.returns
returns c = record {
  alike = λ list script range ranges are joined. joined-alike list script range ranges are joined;
  texts = λ list script range ranges asked one other valid valid_script are joined first second.
      same-charts one other asked
      (texts-alike list script range ranges one other valid valid_script are joined first second);
}
