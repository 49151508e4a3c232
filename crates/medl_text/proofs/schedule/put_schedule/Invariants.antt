use Rattle.std.proofs.Common.{◌∷◌}
use Rattle.ttp_base.specs.Outside.{WroteLines}
use Rattle.ttp_base.specs.Text.{lines_below}
use Rattle.medl_text.specs.Schedule.{table_head, round_lines}
use Rattle.medl_text.proofs.schedule.put_schedule.Given as goal

-- the head and the lines of the rounds so far were written
abbrev pub invariant-loop-round : goal.invariant-loop-round
invariant-loop-round g l =
    WroteLines (g.K.Sink.output l.fn.out) (g.K.Sink.output l.out)
    (table_head l.list ∷ lines_below (round_lines l.list) l.round)
