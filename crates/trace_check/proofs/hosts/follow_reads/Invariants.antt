use Rattle.trace_check.proofs.SlotReads.{HaveRead}
use Rattle.trace_check.proofs.hosts.follow_reads.Given as goal

-- the text begins with the lines of the reads so far
abbrev pub invariant-loop-read : goal.invariant-loop-read
invariant-loop-read l = HaveRead l.plant l.fn.incoming l.incoming l.list l.script l.reads l.text l.rest l.read-index
