use Rattle.safety_laws.proofs.Kept.{kept-safe, kept-leave, kept-clocks, kept-deviations}
use Rattle.safety_laws.proofs.safe.Goals as goal

pub returns-clause-safe : goal.returns-clause-safe
returns-clause-safe c =
    kept-safe c.args.list.now c.args.script.now c.args.start c.requires.valid c.requires.script c.requires.kept

pub returns-clause-leave : goal.returns-clause-leave
returns-clause-leave c =
    kept-leave c.args.list.now c.args.script.now c.args.start c.requires.valid c.requires.script c.requires.kept

pub returns-clause-clocks : goal.returns-clause-clocks
returns-clause-clocks c =
    kept-clocks c.args.list.now c.args.script.now c.args.start c.requires.valid c.requires.script c.requires.kept

pub returns-clause-deviations : goal.returns-clause-deviations
returns-clause-deviations c =
    kept-deviations c.args.list.now c.args.script.now c.args.start c.requires.valid c.requires.script c.requires.kept
