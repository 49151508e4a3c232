-- What is tried before this, where there is no answer, is dear here.
use Rattle.controller.proofs.Words.{arith}
use Rattle.controller.proofs.hearing.view_of_frame.Goals as goal

pub returns-in-Match-clause-view : goal.returns-in-Match-clause-view
returns-in-Match-clause-view c = grind arith

pub returns-in-Invalid-clause-view : goal.returns-in-Invalid-clause-view
returns-in-Invalid-clause-view c = grind arith

pub returns-then-fits_second-clause-view : goal.returns-then-fits_second-clause-view
returns-then-fits_second-clause-view c = grind arith

pub returns-else-fits_second-clause-view : goal.returns-else-fits_second-clause-view
returns-else-fits_second-clause-view c = grind arith
