-- The nodes that acknowledgements are about.
use Rattle.std.specs.Prelude.{◌<◌}
use Rattle.ttp_base.specs.NodeSet.{most_nodes}
use Rattle.ttp_world.specs.declared.node.Ack.{Ack}
use Rattle.ttp_world.specs.declared.node.Ack.TheVariants as ack

-- a doubt is about a node number
abbrev pub IsAboutNode : Ack → Type 0
IsAboutNode ack.Closed = Unit {0}
IsAboutNode ack.First = Unit {0}
IsAboutNode (ack.Doubt x) = x < most_nodes
