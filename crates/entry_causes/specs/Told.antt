-- Entries that are told: those that settled a doubt, and those that made their node listen.
use Rattle.std.specs.Prelude.{ℕ, Bool, List, false, filter, is_some, true}
use Rattle.causes.specs.RunSlots.{RunSlots, doubted_in, judged_so, spots_at_node}
use Rattle.causes.specs.declared.cause.Spot.{Spot}
use Rattle.ttp_world.specs.Acknowledgement.{is_correct}
use Rattle.ttp_world.specs.declared.node.Entry.{Entry}
use Rattle.ttp_world.specs.declared.node.Entry.TheVariants as entry

-- node k's correct entries in doubt, of some slots
abbrev pub settled_in : ℕ → RunSlots → List Spot
settled_in k slots = spots_at_node k (filter (λ s. is_some (doubted_in k s)) (judged_so is_correct k slots))

-- an entry makes its node listen, and is named for it
abbrev pub is_named : Entry → Bool
is_named entry.Retried = true
is_named (entry.Left why peer) = true
is_named entry.Gone = true
is_named _ = false
