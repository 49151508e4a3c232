use Rattle.std.specs.Prelude.{is_some}
use Rattle.campaign.specs.Lines.{has_hurt}
use Rattle.campaign.specs.Tried.{faults_from}
use Rattle.campaign_laws.proofs.FromBelow.{faults_from-stand}
use Rattle.campaign_laws.proofs.Kept.{unharmed-unhurt, unharmed-unsplit, none-counted}
use Rattle.campaign_laws.proofs.laws.kept_is_safe.Goals as goal

pub returns-clause-hurt : goal.returns-clause-hurt
returns-clause-hurt c = λ own history first last.
    let list = c.args.list.now in
    let script = c.args.script.now in
    none-counted list script c.requires.valid c.requires.script c.requires.room has_hurt unharmed-unhurt
    (faults_from list script history first last)
    (faults_from-stand list script history first last c.requires.valid)

pub returns-clause-split : goal.returns-clause-split
returns-clause-split c = λ own history first last.
    let list = c.args.list.now in
    let script = c.args.script.now in
    none-counted list script c.requires.valid c.requires.script c.requires.room (λ cost. is_some cost.split)
    unharmed-unsplit (faults_from list script history first last)
    (faults_from-stand list script history first last c.requires.valid)
