use Rattle.bus_frames.proofs.Offsets.{HaveNoted}
use Rattle.bus_frames.proofs.put.note_offsets.Given as goal

-- the clocks of the nodes so far were noted
abbrev pub invariant-loop-node : goal.invariant-loop-node
invariant-loop-node l = HaveNoted l.offsets l.plant l.list l.node
