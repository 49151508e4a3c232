-- How far apart clocks came: the largest difference between those of two nodes that are on and are not the two-faced
-- one, after a slot from the start on, with the least such slot.
use Rattle.std.specs.Prelude.{ℕ, nat_lt, ℤ, pos, ◌-ℤ◌, ◌&&◌, ◌||◌, not, ◌==◌, List, [], ◌∷◌, length, Option, Some, None}
use Rattle.std.specs.Prelude.{int_le, if◌then◌else◌}
use Rattle.std.specs.Int.{int_min, int_max}
use Rattle.std.specs.List.{filter_map}
use Rattle.ttp_world.specs.declared.medl.Medl.{Medl}
use Rattle.ttp_world.specs.declared.script.Script.{Script}
use Rattle.ttp_world.specs.Diary.{History}
use Rattle.ttp_world.specs.Hypothesis.{ClusterStart, nodes_of, start_of}
use Rattle.ttp_world.specs.Script.{is_on}
use Rattle.ttp_world.specs.World.{Numbers, node_past, world}
use Rattle.two_faced.specs.declared.seen.Seen.{Seen}

-- Differences.

-- the greatest, and the least, of a number and others
abbrev pub greatest : ℤ → List ℤ → ℤ
greatest z [] = z
greatest z (x ∷ xs) = greatest (int_max z x) xs

abbrev pub least : ℤ → List ℤ → ℤ
least z [] = z
least z (x ∷ xs) = least (int_min z x) xs

-- the largest difference between two of these
abbrev pub widest : List ℤ → ℤ
widest [] = pos 0
widest (z ∷ zs) = greatest z zs -ℤ least z zs

-- Clocks after a slot.

-- node k's clock after a history, where it is on in a slot and is not z
abbrev pub clock_beside : Medl → Script → ℕ → ℕ → History → ℕ → Option ℤ
clock_beside list script z slot history k =
    if not (k == z) && is_on script k slot then Some (node_past list script history k).offset else None

-- how far such clocks are apart
abbrev pub apart_after : Medl → Script → ℕ → ℕ → History → ℤ
apart_after list script z slot history = widest (filter_map (clock_beside list script z slot history) (nodes_of list))

-- The run.

-- of what was seen and a later slot, from the start on the one that shows more
abbrev pub seen_with_slot : ℕ → Seen → Seen → Seen
seen_with_slot start seen later = if nat_lt later.slot start || int_le later.value seen.value then seen else later

-- what was seen in a history; before the first slot from the start on no difference
abbrev pub seen_in : Medl → Script → ℕ → ℕ → History → Seen
seen_in list script z start [] = record { value = pos 0; slot = start }
seen_in list script z start (row ∷ history) =
    seen_with_slot start (seen_in list script z start history)
    (record { value = apart_after list script z (length history) (row ∷ history); slot = length history })

-- where there is no start nothing is seen
abbrev pub seen_since : Medl → Script → ℕ → History → Option ClusterStart → Seen
seen_since list script z history None = record { value = pos 0; slot = 0 }
seen_since list script z history (Some start) = seen_in list script z start.slot history

-- what is seen in the run of a list and script by these numbers
abbrev pub seen_of : Medl → Script → Numbers → ℕ → Seen
seen_of list script numbers z = seen_since list script z (world list script numbers) (start_of list script)
