use Rattle.std.proofs.Common.{None, refl}
use Rattle.hypothesis.specs.Standing.{told_start}
use Rattle.broken_arms.proofs.Since.{not-long}
use Rattle.broken_arms.proofs.reasons.why_not_owed.Goals as goal

pub returns-in-None : goal.returns-in-None
returns-in-None c =
    not-long c.args.list.now c.args.script.now (told_start c.args.start) c.args.node
    c.args.slot None c.in-None.ensures.value
    refl
