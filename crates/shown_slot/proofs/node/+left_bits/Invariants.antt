use Rattle.std.proofs.Common.{length}
use Rattle.shown_slot.proofs.node.+left_bits.Given as goal

-- the nodes that are left
abbrev pub decreases-left_bits : goal.decreases-left_bits
decreases-left_bits l = length l.nodes.now
