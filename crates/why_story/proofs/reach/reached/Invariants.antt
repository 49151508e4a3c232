use Rattle.std.proofs.Common.{◌≤◌, []}
use Rattle.causes.specs.Story.{spots_back}
use Rattle.why_story.specs.Passes.{Reaches}
use Rattle.why_story.specs.RunSource.{source_slots, slots_up_to}
use Rattle.why_story.proofs.reach.reached.Given as goal

-- the slots before one are left
abbrev pub invariant-loop-slot : goal.invariant-loop-slot
invariant-loop-slot g l = (l.slot ≤ l.slots) × Reaches (source_slots (g.C.Causes.source l.causes)) l.slots [] l.from
    (spots_back (slots_up_to (source_slots (g.C.Causes.source l.causes)) l.slots))
    (spots_back (slots_up_to (source_slots (g.C.Causes.source l.causes)) l.slot)) l.reach

abbrev pub decreases-loop-slot : goal.decreases-loop-slot
decreases-loop-slot g l = l.slot
