use Rattle.wave_text.proofs.Words.{length}
use Rattle.wave_text.proofs.Noting.{AreTaken}
use Rattle.wave_text.proofs.ports.note_sizes.Given as goal

-- the lines so far were taken into the table
abbrev pub invariant-loop-line : goal.invariant-loop-line
invariant-loop-line l = AreTaken l.fn.sizes l.sizes l.fn.lines l.left

abbrev pub decreases-loop-line : goal.decreases-loop-line
decreases-loop-line l = length l.left
