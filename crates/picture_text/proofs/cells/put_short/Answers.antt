use Rattle.picture_text.proofs.Words.{arith}
use Rattle.ttp_base.proofs.Room.{room}
use Rattle.picture_text.proofs.cells.put_short.Goals as goal

pub put_number-requires : goal.put_number-requires
put_number-requires c = grind (arith, room)

pub put_number-requires-then-number-lt1000000 : goal.put_number-requires-then-number-lt1000000
put_number-requires-then-number-lt1000000 c = grind (arith, room)

pub put_text-requires : goal.put_text-requires
put_text-requires c = grind (arith, room)

pub put_text-requires-else-number-lt1000000 : goal.put_text-requires-else-number-lt1000000
put_text-requires-else-number-lt1000000 c = grind (arith, room)

pub returns-then-number-lt10000-clause-short : goal.returns-then-number-lt10000-clause-short
returns-then-number-lt10000-clause-short c = grind (arith, room)

pub returns-then-number-lt1000000-clause-short : goal.returns-then-number-lt1000000-clause-short
returns-then-number-lt1000000-clause-short c = grind (arith, room)

pub returns-else-number-lt1000000-clause-short : goal.returns-else-number-lt1000000-clause-short
returns-else-number-lt1000000-clause-short c = grind (arith, room)
