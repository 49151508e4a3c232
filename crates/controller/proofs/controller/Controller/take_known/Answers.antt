use Rattle.controller.proofs.Words.{w64, rules, to_z-of_z}
use Rattle.controller.proofs.controller.Controller.take_known.Goals as goal

pub returns-in-Planned-clause-ends : goal.returns-in-Planned-clause-ends
returns-in-Planned-clause-ends c =
    rw (to_z-of_z w64 c.args.error (search rules), to_z-of_z w64 c.args.drift (search rules)) at
    c.end-in-Planned.ensures.ends

pub returns-in-Planned-Judge-default-default-clause-ends : goal.returns-in-Planned-Judge-default-default-clause-ends
returns-in-Planned-Judge-default-default-clause-ends c =
    rw (to_z-of_z w64 c.args.error (search rules), to_z-of_z w64 c.args.drift (search rules)) at c.end.ensures.ends
