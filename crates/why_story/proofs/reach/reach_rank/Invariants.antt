use Rattle.std.proofs.Common.{ℕ, List, ◌<◌, ◌≤◌}
use Rattle.causes.specs.declared.cause.Spot.{Spot}
use Rattle.why_story.specs.Marks.{AreMarked}
use Rattle.why_story.specs.Passes.{Reaches, rank_back}
use Rattle.why_story.specs.RunSource.{source_slots}
use Rattle.why_story.proofs.reach.reach_rank.Given as goal

-- those below are left
abbrev pub invariant-loop-node : goal.invariant-loop-node
invariant-loop-node g l = (l.node ≤ l.nodes) × ((count : ℕ) (marked : List Spot) → l.slot < count
    → AreMarked count marked l.initial.reach.marks
    → Reaches (source_slots (g.C.Causes.source l.causes)) count l.initial.reach.told marked
    (rank_back (source_slots (g.C.Causes.source l.causes)) l.slot l.rank l.nodes)
    (rank_back (source_slots (g.C.Causes.source l.causes)) l.slot l.rank l.node) l.reach)

abbrev pub decreases-loop-node : goal.decreases-loop-node
decreases-loop-node g l = l.node
