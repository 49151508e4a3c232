use Rattle.wave_text.proofs.Noting.{AreCleared}
use Rattle.wave_text.proofs.newest.clear.Given as goal

-- the messages of the ports so far were taken out
abbrev pub invariant-loop-port : goal.invariant-loop-port
invariant-loop-port l = AreCleared l.ports l.messages l.port-index
