use Rattle.campaign_laws.proofs.Yes.{yes-line}
use Rattle.campaign_laws.proofs.laws.yes_is_safe.Goals as goal

pub returns-clause-hurt : goal.returns-clause-hurt
returns-clause-hurt c =
    (yes-line c.args.list.now c.args.script.now c.requires.valid c.requires.script c.requires.yes).hurt

pub returns-clause-split : goal.returns-clause-split
returns-clause-split c =
    (yes-line c.args.list.now c.args.script.now c.requires.valid c.requires.script c.requires.yes).split
