use Rattle.std.proofs.Common.{length}
use Rattle.shown_slot.proofs.node.+agreement.Given as goal

-- the nodes that are left
abbrev pub decreases-agreement : goal.decreases-agreement
decreases-agreement l = length l.nodes.now
