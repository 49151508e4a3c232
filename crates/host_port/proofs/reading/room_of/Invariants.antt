use Rattle.host_port.proofs.Names.{◌≡◌, take, sum_by, spare_of}
use Rattle.host_port.proofs.reading.room_of.Given as goal

abbrev pub invariant-loop-reader : goal.invariant-loop-reader
invariant-loop-reader l = l.room ≡ sum_by spare_of (take l.reader-index l.readers)
