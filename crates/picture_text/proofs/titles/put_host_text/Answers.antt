use Rattle.picture_text.proofs.Words.{arith}
use Rattle.ttp_base.proofs.Room.{room}
use Rattle.picture_text.proofs.titles.put_host_text.Goals as goal

pub put_host-requires : goal.put_host-requires
put_host-requires c = grind (arith, room)

pub put_field-requires : goal.put_field-requires
put_field-requires c = grind (arith, room)

pub put_host-requires-in-Read : goal.put_host-requires-in-Read
put_host-requires-in-Read c = grind (arith, room)

pub put_text-requires : goal.put_text-requires
put_text-requires c = grind (arith, room)

pub put_source-requires : goal.put_source-requires
put_source-requires c = grind (arith, room)

pub put_field-requires-in-Read : goal.put_field-requires-in-Read
put_field-requires-in-Read c = grind (arith, room)

pub put_text-requires-in-Read : goal.put_text-requires-in-Read
put_text-requires-in-Read c = grind (arith, room)

pub put_hex_bytes-requires : goal.put_hex_bytes-requires
put_hex_bytes-requires c = grind (arith, room)

pub returns-in-Write-clause-short : goal.returns-in-Write-clause-short
returns-in-Write-clause-short c = grind (arith, room)

pub returns-in-Read-clause-short : goal.returns-in-Read-clause-short
returns-in-Read-clause-short c = grind (arith, room)
