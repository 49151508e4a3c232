use Rattle.std.proofs.Common.{take, map}
use Rattle.ttp_base.specs.Outside.{WroteLines}
use Rattle.trace_text.specs.ReportText.{write_text}
use Rattle.trace_text.proofs.slot.put_writes.Given as goal

-- the lines so far were written
abbrev pub invariant-loop-write : goal.invariant-loop-write
invariant-loop-write g l =
    WroteLines (g.K.Sink.output l.fn.out) (g.K.Sink.output l.out)
    (take l.write-index (map (write_text l.slot) l.writes))
