use Rattle.cluster_run.proofs.Words.{take, HaveRead}
use Rattle.cluster_run.proofs.reading.read_all.Given as goal

abbrev pub invariant-loop-read : goal.invariant-loop-read
invariant-loop-read g l = HaveRead (take l.read-index l.reads) l.fn.readers l.readers
