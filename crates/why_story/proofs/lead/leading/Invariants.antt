use Rattle.std.proofs.Common.{◌≤◌, length, drop}
use Rattle.causes.specs.Story.{leading}
use Rattle.why_story.specs.Marks.{AreMarked}
use Rattle.why_story.proofs.lead.leading.Given as goal

-- those from here on that lead back are marked
abbrev pub invariant-loop-place : goal.invariant-loop-place
invariant-loop-place l = (l.place ≤ length l.told) × AreMarked l.slots (leading (drop l.place l.told)) l.back

abbrev pub decreases-loop-place : goal.decreases-loop-place
decreases-loop-place l = l.place
