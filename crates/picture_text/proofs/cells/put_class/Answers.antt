use Rattle.picture_text.proofs.Words.{arith}
use Rattle.ttp_base.proofs.Room.{room}
use Rattle.picture_text.proofs.cells.put_class.Goals as goal

pub put_text-requires : goal.put_text-requires
put_text-requires c = grind (arith, room)

pub put_text-requires-2 : goal.put_text-requires-2
put_text-requires-2 c = grind (arith, room)

pub put_text-requires-3 : goal.put_text-requires-3
put_text-requires-3 c = grind (arith, room)

pub put_text-requires-4 : goal.put_text-requires-4
put_text-requires-4 c = grind (arith, room)

pub put_text-requires-5 : goal.put_text-requires-5
put_text-requires-5 c = grind (arith, room)

pub returns-clause-short : goal.returns-clause-short
returns-clause-short c = grind (arith, room)
