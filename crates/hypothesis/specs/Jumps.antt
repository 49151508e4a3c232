-- Jumps of clocks.
use Rattle.std.specs.Prelude.{◌≡◌, ℕ, ◌<◌, ◌^◌, nat_le, nat_lt, Bool, false, ◌&&◌, ◌||◌, ◌==◌, List, get_or}
use Rattle.std.specs.List.{list_any}
use Rattle.ttp_base.specs.NodeSet.{most_nodes}
use Rattle.ttp_world.specs.declared.script.Event.{Event}
use Rattle.ttp_world.specs.declared.script.Event.TheVariants as event
use Rattle.ttp_world.specs.Hypothesis.{is_jump_before}

-- for each node the slot of its first jump among these events: it has jumped before just the slots after that one
abbrev pub AreFirstJumps : List Event → List ℕ → Type 0
AreFirstJumps events first =
    (k slot : ℕ) → k < most_nodes → slot < 2 ^ 32
    → list_any (is_jump_before k slot) events ≡ nat_lt (get_or first k 0) slot

-- an event is a jump in a slot, or in one of those after it and before another
abbrev pub is_jump_within : ℕ → ℕ → Event → Bool
is_jump_within from until (event.Jump node value at) = (at == from) || (nat_le from at && nat_lt at until)
is_jump_within from until _ = false
