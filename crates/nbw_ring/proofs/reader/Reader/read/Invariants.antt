use Rattle.nbw_ring.proofs.Attempts.{StillReads}
use Rattle.nbw_ring.proofs.reader.Reader.read.Given as goal

abbrev pub invariant-loop : goal.invariant-loop
invariant-loop g l = StillReads l.fn.self l.self
