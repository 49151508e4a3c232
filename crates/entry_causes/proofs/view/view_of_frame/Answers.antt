use Rattle.std.proofs.Common.{arith}
use Rattle.entry_causes.proofs.view.view_of_frame.Goals as goal

pub returns-in-Match : goal.returns-in-Match
returns-in-Match c = grind arith

pub returns-then-fits_second : goal.returns-then-fits_second
returns-then-fits_second c = grind arith

pub returns-else-fits_second : goal.returns-else-fits_second
returns-else-fits_second c = grind arith
