use Rattle.std.proofs.Common.{◌≡◌, drop}
use Rattle.ttp_base.specs.NodeSet.{has_node}
use Rattle.ttp_world.specs.Events.{bits_on}
use Rattle.entry_causes.proofs.flips.is_flipped.Given as goal

-- one of those from here on is, if any is
abbrev pub invariant-loop-flip : goal.invariant-loop-flip
invariant-loop-flip l =
    has_node (bits_on l.channel l.flips) l.bit ≡ has_node (bits_on l.channel (drop l.flip-index l.flips)) l.bit
