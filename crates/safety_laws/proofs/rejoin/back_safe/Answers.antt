use Rattle.safety_laws.proofs.Returned.{returned-safe}
use Rattle.safety_laws.proofs.rejoin.back_safe.Goals as goal

pub returns : goal.returns
returns c =
    returned-safe c.args.list.now c.args.script.now c.args.start c.requires.valid c.requires.script c.requires.kept
