use Rattle.std.proofs.Common.{length}
use Rattle.shown_slot.proofs.node.+clock_range.Given as goal

-- the nodes that are left
abbrev pub decreases-clock_range : goal.decreases-clock_range
decreases-clock_range l = length l.nodes.now
