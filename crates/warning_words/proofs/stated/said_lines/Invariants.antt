use Rattle.std.proofs.Common.{length}
use Rattle.warning_words.proofs.Saying.{IsSaying}
use Rattle.warning_words.proofs.stated.said_lines.Given as goal

abbrev pub invariant-loop-line : goal.invariant-loop-line
invariant-loop-line l = IsSaying l.text l.number l.rest l.lines.events l.lines.others

abbrev pub decreases-loop-line : goal.decreases-loop-line
decreases-loop-line l = length l.rest
