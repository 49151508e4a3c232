use Rattle.picture_text.proofs.Words.{arith}
use Rattle.ttp_base.proofs.Room.{room}
use Rattle.picture_text.proofs.members_cell.+put_count.Goals as goal

pub put_text-requires : goal.put_text-requires
put_text-requires t c = grind (arith, room)

pub put_number-requires : goal.put_number-requires
put_number-requires t c = grind (arith, room)

pub put_count-requires : goal.put_count-requires
put_count-requires t c = grind (arith, room)

pub returns-in-empty-clause-short : goal.returns-in-empty-clause-short
returns-in-empty-clause-short t c = grind (arith, room)

pub returns-then-is_holder-clause-short : goal.returns-then-is_holder-clause-short
returns-then-is_holder-clause-short t c = grind (arith, room)

pub returns-else-is_holder-clause-short : goal.returns-else-is_holder-clause-short
returns-else-is_holder-clause-short t c = grind (arith, room)
