use Rattle.std.proofs.Common.{map}
use Rattle.ttp_base.specs.NodeSet.{below}
use Rattle.ttp_base.specs.Outside.{WroteLines}
use Rattle.medl_text.specs.Schedule.{slot_line}
use Rattle.medl_text.proofs.schedule.put_round.Given as goal

-- the lines of the slots so far were written
abbrev pub invariant-loop-slot : goal.invariant-loop-slot
invariant-loop-slot g l =
    WroteLines (g.K.Sink.output l.fn.out) (g.K.Sink.output l.out) (map (slot_line l.list l.round) (below l.slot))
