-- A run in which every frame with payload carries message 0 of its node, the zeros. Clocks, entries and costs are those
-- of every run of the script, whatever messages its frames carry.
use Rattle.std.specs.Prelude.{ℕ, zero, suc, List, [], map, length}
use Rattle.ttp_base.specs.NodeSet.{below}
use Rattle.ttp_world.specs.declared.medl.Medl.{Medl}
use Rattle.ttp_world.specs.declared.node.Chosen.{Chosen}
use Rattle.ttp_world.specs.declared.script.Script.{Script}
use Rattle.ttp_world.specs.Diary.{History}
use Rattle.ttp_world.specs.Outgoing.{zeros_of}
use Rattle.ttp_world.specs.World.{step}

-- message 0 of node k, the zeros
abbrev pub zeros_chosen : Medl → ℕ → Chosen
zeros_chosen list k = record { number = 0; payload = zeros_of list k }

-- that of each node
abbrev pub all_zeros : Medl → List Chosen
all_zeros list = map (zeros_chosen list) (below (length list.slots))

-- the world after so many slots, where they are chosen in each
abbrev pub zeros_world : Medl → Script → ℕ → History
zeros_world list script zero = []
zeros_world list script (suc slots) = step list script (zeros_world list script slots) (all_zeros list)
