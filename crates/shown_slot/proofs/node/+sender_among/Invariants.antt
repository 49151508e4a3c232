use Rattle.std.proofs.Common.{length}
use Rattle.shown_slot.proofs.node.+sender_among.Given as goal

-- the nodes that are left
abbrev pub decreases-sender_among : goal.decreases-sender_among
decreases-sender_among l = length l.nodes.now
