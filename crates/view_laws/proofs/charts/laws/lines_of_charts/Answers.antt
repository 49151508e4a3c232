use Rattle.view_laws.proofs.CampaignsRead.{campaign-draws}
use Rattle.view_laws.proofs.charts.laws.lines_of_charts.Goals as goal

pub returns : goal.returns
returns c = λ text campaign asked is. (campaign-draws text campaign asked is).each
