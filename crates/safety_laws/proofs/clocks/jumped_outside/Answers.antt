use Rattle.safety_laws.proofs.OutsideWindow.{jumped-outside}
use Rattle.safety_laws.proofs.clocks.jumped_outside.Goals as goal

pub returns-clause-frame : goal.returns-clause-frame
returns-clause-frame c list script start plan slot history is x k since inside has p =
    (jumped-outside is x inside k since has p).0

pub returns-clause-others : goal.returns-clause-others
returns-clause-others c list script start plan slot history is x k since inside has p =
    (jumped-outside is x inside k since has p).1
