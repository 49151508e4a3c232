use Rattle.std.proofs.Common.{map, take}
use Rattle.ttp_base.specs.Sheet.{Puts}
use Rattle.ttp_base.proofs.sheet.Sheet.put_lines.Given as goal

-- the lines so far were put
abbrev pub invariant-loop-line : goal.invariant-loop-line
invariant-loop-line g l =
    Puts l.fn.self.failed (g.K.Sink.output l.fn.out) l.self.failed (g.K.Sink.output l.out)
    (map (λ line. line.now) (take l.line-index l.lines))
