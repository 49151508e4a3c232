use Rattle.controller.proofs.Words.{w64, rules, to_z-of_z}
use Rattle.controller.proofs.controller.Controller.take.Goals as goal

pub returns-clause-ends : goal.returns-clause-ends
returns-clause-ends c =
    rw (to_z-of_z w64 c.args.error (search rules), to_z-of_z w64 c.args.drift (search rules))
    at c.take_known.ensures.ends
