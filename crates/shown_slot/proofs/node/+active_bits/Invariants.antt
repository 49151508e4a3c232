use Rattle.std.proofs.Common.{length}
use Rattle.shown_slot.proofs.node.+active_bits.Given as goal

-- the nodes that are left
abbrev pub decreases-active_bits : goal.decreases-active_bits
decreases-active_bits l = length l.nodes.now
