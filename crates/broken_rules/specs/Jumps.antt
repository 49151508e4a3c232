-- Flipped bits, and jumps that no rule allows.
use Rattle.std.specs.Prelude.{◌≡◌, ℕ, ◌+◌, ◌<◌, nat_lt, List, [], ◌∷◌, get_or, ◌==◌, Option, Some, None, option_map}
use Rattle.std.specs.Prelude.{if◌then◌else◌, length}
use Rattle.std.specs.List.{filter_map}
use Rattle.ttp_base.specs.NodeSet.{most_nodes}
use Rattle.ttp_world.specs.declared.medl.Medl.{Medl}
use Rattle.ttp_world.specs.declared.script.Event.{Event}
use Rattle.ttp_world.specs.declared.script.Event.TheVariants as event
use Rattle.ttp_world.specs.declared.script.Script.{Script}
use Rattle.ttp_world.specs.Hypothesis.{is_far_jump, least_of}
use Rattle.ttp_world.specs.Script.{jump_of}
use Rattle.broken_rules.specs.declared.jumps.Disturbance.{Disturbance}
use Rattle.broken_rules.specs.declared.jumps.Disturbance.TheVariants as disturbance
use Rattle.broken_rules.specs.declared.jumps.Disturbed.{Disturbed}

-- the slot in which an event lets the clock of node k jump
abbrev pub jump_slot : ℕ → Event → Option ℕ
jump_slot k (event.Jump node value slot) = if node == k then Some slot else None
jump_slot k _ = None

-- the slot of its first jump, if it has one
abbrev pub first_jump : Script → ℕ → Option ℕ
first_jump script k = least_of (filter_map (jump_slot k) script.events)

-- for each node that of its first jump
pub record HoldFirstJumps (script : Script) (slots : List (Option ℕ)) : Type 0 where
  pub room : length slots ≡ most_nodes
  pub first : (k : ℕ) → k < most_nodes → get_or slots k None ≡ first_jump script k

-- the jumps of node k in a slot do not go four windows
abbrev pub short_jump : Medl → Script → ℕ → ℕ → Option Disturbance
short_jump list script k slot =
    if is_far_jump list (jump_of script k slot) then None else Some (disturbance.ShortJump k (jump_of script k slot))

-- what is not allowed of its jump in a slot, where its first jump is in this one
abbrev pub jump_since : Medl → Script → ℕ → ℕ → Option ℕ → Option Disturbance
jump_since list script k slot None = short_jump list script k slot
jump_since list script k slot (Some first) =
    if nat_lt first slot then Some (disturbance.JumpsAgain k first) else short_jump list script k slot

abbrev pub jump_disturbs : Medl → Script → ℕ → ℕ → Option Disturbance
jump_disturbs list script k slot = jump_since list script k slot (first_jump script k)

-- an event in a slot, at a place among the events, does this
abbrev pub disturbed_by : ℕ → ℕ → Disturbance → Disturbed
disturbed_by slot place by = record { slot = slot; place = place; by = by }

-- what an event does that is not allowed
abbrev pub disturbed_at : Medl → Script → ℕ → Event → Option Disturbed
disturbed_at list script place (event.Flip node channels bit slot) =
    Some (disturbed_by slot place (disturbance.FlippedBit node))
disturbed_at list script place (event.Jump node value slot) =
    option_map (disturbed_by slot place) (jump_disturbs list script node slot)
disturbed_at list script place _ = None

-- the one in the lesser slot, the first of two in one
abbrev pub earlier : Disturbed → Option Disturbed → Disturbed
earlier first None = first
earlier first (Some later) = if nat_lt later.slot first.slot then later else first

-- with those behind it
abbrev pub earliest_of : Option Disturbed → Option Disturbed → Option Disturbed
earliest_of None later = later
earliest_of (Some first) later = Some (earlier first later)

-- the earliest of some events, of which the first stands at a place
abbrev pub disturbed_from : Medl → Script → ℕ → List Event → Option Disturbed
disturbed_from list script place [] = None
disturbed_from list script place (e ∷ events) =
    earliest_of (disturbed_at list script place e) (disturbed_from list script (place + 1) events)

-- what is not allowed in the first slot in which something is not, by its first line
abbrev pub first_disturbed : Medl → Script → Option Disturbed
first_disturbed list script = disturbed_from list script 0 script.events
