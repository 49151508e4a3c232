use Rattle.fault_runs.proofs.Words.{◌*◌, WroteLines, fault_lines, tried_before, most_tried, HasAtMost, IsTallyOf}
use Rattle.fault_runs.specs.Tries.{IsOwnAfter}
use Rattle.fault_runs.proofs.put.put_slots.Given as goal

-- the runs of the faults of the slots so far were told and counted
abbrev pub invariant-loop-slot : goal.invariant-loop-slot
invariant-loop-slot g l =
    IsOwnAfter l.own l.common.list.now l.common.script.now l.slot
    × IsTallyOf l.common.list.now l.common.script.now
    (tried_before l.common.list.now l.common.script.now l.common.first l.common.last l.slot) l.tally
    × HasAtMost (most_tried * l.slot) l.tally
    × WroteLines (g.K.Sink.output l.initial.out) (g.K.Sink.output l.out)
    (fault_lines l.common.list.now l.common.script.now
    (tried_before l.common.list.now l.common.script.now l.common.first l.common.last l.slot))
