use Rattle.picture_text.proofs.Words.{arith}
use Rattle.ttp_base.proofs.Room.{room}
use Rattle.picture_text.proofs.members_cell.open_members.Goals as goal

pub put_text-requires : goal.put_text-requires
put_text-requires c = grind (arith, room)

pub open_title-requires : goal.open_title-requires
open_title-requires c = grind (arith, room)

pub put_field-requires : goal.put_field-requires
put_field-requires c = grind (arith, room)

pub put_text-requires-2 : goal.put_text-requires-2
put_text-requires-2 c = grind (arith, room)

pub put_bytes-requires : goal.put_bytes-requires
put_bytes-requires c = grind (arith, room)

pub put_memberships-requires-clause-room : goal.put_memberships-requires-clause-room
put_memberships-requires-clause-room c = grind (arith, room)

pub returns-clause-short : goal.returns-clause-short
returns-clause-short c = grind (arith, room)
