use Rattle.std.proofs.Common.{take, map}
use Rattle.ttp_base.specs.Outside.{WroteLines}
use Rattle.trace_text.specs.ReportText.{read_text}
use Rattle.trace_text.proofs.slot.put_reads.Given as goal

-- the lines so far were written
abbrev pub invariant-loop-read : goal.invariant-loop-read
invariant-loop-read g l =
    WroteLines (g.K.Sink.output l.fn.out) (g.K.Sink.output l.out)
    (take l.read-index (map (read_text l.list l.slot) l.reads))
