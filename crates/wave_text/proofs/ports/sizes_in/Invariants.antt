use Rattle.wave_text.proofs.Words.{length}
use Rattle.wave_text.proofs.Noting.{AreSlotsTaken}
use Rattle.wave_text.proofs.ports.sizes_in.Given as goal

-- the lines of the slots so far were taken into the table
abbrev pub invariant-loop-lines : goal.invariant-loop-lines
invariant-loop-lines l = AreSlotsTaken l.sizes l.trace.slots l.slots

abbrev pub decreases-loop-lines : goal.decreases-loop-lines
decreases-loop-lines l = length l.slots
