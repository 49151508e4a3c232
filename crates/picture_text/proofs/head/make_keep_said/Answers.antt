use Rattle.picture_text.proofs.Words.{arith}
use Rattle.ttp_base.proofs.Room.{room}
use Rattle.picture_text.proofs.head.make_keep_said.Goals as goal

pub put_bytes-requires : goal.put_bytes-requires
put_bytes-requires c = grind (arith, room)

pub put_text-requires : goal.put_text-requires
put_text-requires c = grind (arith, room)

pub close_text-requires : goal.close_text-requires
close_text-requires c = grind (arith, room)
