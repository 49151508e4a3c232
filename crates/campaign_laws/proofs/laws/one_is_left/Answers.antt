use Rattle.campaign_laws.proofs.Ends.{one-end}
use Rattle.campaign_laws.proofs.laws.one_is_left.Goals as goal

pub returns : goal.returns
returns c = one-end c.args.list.now c.args.script.now c.requires.valid c.requires.script c.requires.over c.requires.yes
