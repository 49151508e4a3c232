use Rattle.std.proofs.Common.{take}
use Rattle.ttp_base.specs.Sheet.{Puts}
use Rattle.lab_top.proofs.why.put_texts.Given as goal

-- the lines so far were put
abbrev pub invariant-loop-line : goal.invariant-loop-line
invariant-loop-line g l =
    Puts l.fn.sheet.failed (g.K.Sink.output l.fn.out) l.sheet.failed (g.K.Sink.output l.out) (take l.line-index l.lines)
