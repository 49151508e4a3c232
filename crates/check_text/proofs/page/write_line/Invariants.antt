use Rattle.std.proofs.Common.{length}
use Rattle.check_text.proofs.Pages.{IsWriting}
use Rattle.check_text.proofs.page.write_line.Given as goal

-- the pieces so far were written
abbrev pub invariant-loop-rest : goal.invariant-loop-rest
invariant-loop-rest g l = IsWriting l.line l.rest (g.K.Sink.output l.fn.out) (g.K.Sink.output l.out)

abbrev pub decreases-loop-rest : goal.decreases-loop-rest
decreases-loop-rest g l = length l.rest
