use Rattle.wave_text.proofs.Words.{length}
use Rattle.wave_text.proofs.Noting.{AreNoted}
use Rattle.wave_text.proofs.newest.note_slot.Given as goal

-- the lines so far were taken into the table
abbrev pub invariant-loop-line : goal.invariant-loop-line
invariant-loop-line l = AreNoted l.ports l.messages l.slot.hosts l.hosts

abbrev pub decreases-loop-line : goal.decreases-loop-line
decreases-loop-line l = length l.hosts
