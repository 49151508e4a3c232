use Rattle.view_laws.proofs.CampaignsRead.{campaign-draws}
use Rattle.view_laws.proofs.charts.laws.marks_of_charts.Goals as goal

pub returns : goal.returns
returns c = record {
  marks = λ text campaign asked is. (campaign-draws text campaign asked is).are;
  once = λ text campaign asked is. (campaign-draws text campaign asked is).once;
  plain = λ text campaign asked is. (campaign-draws text campaign asked is).plain;
}
