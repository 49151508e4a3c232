use Rattle.ttp_world.proofs.Words.{◌≡◌, take, keyed_writes}
use Rattle.ttp_world.proofs.host_lines.writes_of.Given as goal

abbrev pub invariant-loop-place : goal.invariant-loop-place
invariant-loop-place l = l.writes ≡ keyed_writes 0 (take l.place l.events)
