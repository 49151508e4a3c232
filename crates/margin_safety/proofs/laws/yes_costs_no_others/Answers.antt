use Rattle.margin_safety.proofs.Safe.{yes-harmless}
use Rattle.margin_safety.proofs.laws.yes_costs_no_others.Goals as goal

pub returns-clause-hurt : goal.returns-clause-hurt
returns-clause-hurt c = λ k.
    (yes-harmless c.args.list.now c.args.script.now k c.requires.valid c.requires.script c.requires.yes).0

pub returns-clause-split : goal.returns-clause-split
returns-clause-split c = λ k.
    (yes-harmless c.args.list.now c.args.script.now k c.requires.valid c.requires.script c.requires.yes).1

pub returns-clause-costs : goal.returns-clause-costs
returns-clause-costs c = λ k.
    (yes-harmless c.args.list.now c.args.script.now k c.requires.valid c.requires.script c.requires.yes).2
