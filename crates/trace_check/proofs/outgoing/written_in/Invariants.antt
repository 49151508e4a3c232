use Rattle.trace_check.proofs.Words.{◌≡◌, ◌+◌, length, write_at}
use Rattle.trace_check.proofs.Writes.{messages_at}
use Rattle.trace_check.proofs.outgoing.written_in.Given as goal

-- of the host's messages so many are before the one that is looked for
abbrev pub invariant-loop-at : goal.invariant-loop-at
invariant-loop-at l = length (messages_at (write_at l.script) l.host l.places l.at-index) + l.before ≡ l.place
