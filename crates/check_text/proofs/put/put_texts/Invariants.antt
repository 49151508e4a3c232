use Rattle.std.proofs.Common.{take}
use Rattle.check_text.specs.Page.{PutsOn}
use Rattle.check_text.proofs.put.put_texts.Given as goal

-- the lines so far were put
abbrev pub invariant-loop-line : goal.invariant-loop-line
invariant-loop-line g l =
    PutsOn l.fn.page.ended (g.K.Sink.output l.fn.out) l.page.ended (g.K.Sink.output l.out) (take l.line-index l.lines)
