use Rattle.trace_check.proofs.Words.{take, filter_map, write_at}
use Rattle.trace_check.proofs.Written.{HasWrittenLines}
use Rattle.trace_check.proofs.hosts.follow_writes.Given as goal

-- the writes so far were made, each after its line
abbrev pub invariant-loop-at : goal.invariant-loop-at
invariant-loop-at l =
    HasWrittenLines l.outgoing l.list l.script l.slot l.text l.rest
    (filter_map (write_at l.script) (take l.at-index l.places))
