use Rattle.fault_runs.proofs.Words.{◌≡◌, ◌++◌, ◌+◌, ◌*◌, List, take, map, WroteLines, Medl, Event, Script, most_tried}
use Rattle.fault_runs.proofs.Words.{HasAtMost, IsTallyOf, tried_of, tried_lines}
use Rattle.fault_runs.proofs.put.put_all.Given as goal

-- the runs so far were told and counted
abbrev pub invariant-loop-tried : goal.invariant-loop-tried
invariant-loop-tried g l =
    ((list : Medl) (script : Script) (before faults : List Event) → l.all ≡ map (tried_of list script) faults
    → IsTallyOf list script before l.initial.tally
    → IsTallyOf list script (before ++ take l.tried-index faults) l.tally)
    × HasAtMost (most_tried * l.slot + l.tried-index) l.tally
    × WroteLines (g.K.Sink.output l.initial.out) (g.K.Sink.output l.out)
    (tried_lines (take l.tried-index l.all))
