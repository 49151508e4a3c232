-- What the code's values stand for.
use Rattle.std.specs.Prelude.{◌≡◌, ℕ, ◌<◌, List, Option, Some, None}
use Rattle.ttp_base.specs.NodeSet.{most_nodes, has_node}
use Rattle.ttp_world.specs.Hypothesis.{ClusterStart}
use Rattle.ttp_world.specs.Hypothesis.{Loss, Harmless, Makes, Breaks}
use Rattle.hypothesis.specs.declared.start.Start.{Start}
use Rattle.hypothesis.specs.declared.losses.SlotLoss.{SlotLoss}
use Rattle.hypothesis.specs.declared.losses.SlotLoss.TheVariants as slot_loss

-- the start that the code found
abbrev pub told_start : Start → ClusterStart
told_start start = record { slot = start.slot; node = start.node }

-- the start that the code found, if it found one
abbrev pub told_start_if : Option Start → Option ClusterStart
told_start_if None = None
told_start_if (Some start) = Some (told_start start)

-- the loss that the code found
abbrev pub told_loss : SlotLoss → Loss
told_loss slot_loss.Harmless = Harmless
told_loss (slot_loss.Makes node) = Makes node
told_loss slot_loss.Breaks = Breaks

-- the node that a loss makes faulty is a number that a set can have
abbrev pub IsOfNodes : SlotLoss → Type 0
IsOfNodes slot_loss.Harmless = Unit {0}
IsOfNodes (slot_loss.Makes node) = node < most_nodes
IsOfNodes slot_loss.Breaks = Unit {0}

-- two lists have the same nodes, in whatever order
abbrev pub HaveSameNodes : List ℕ → List ℕ → Type 0
HaveSameNodes first second = (k : ℕ) → k < most_nodes → has_node first k ≡ has_node second k
