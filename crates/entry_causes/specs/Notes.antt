-- What is said of two clocks, one part after another.
use Rattle.std.specs.Prelude.{List, [], filter, flat_map, map, nat_le, ℕ, ◌&&◌, ◌++◌, ◌∷◌}
use Rattle.causes.specs.Clocks.{NotedClock, error_lines, is_unread, jumps_borne}
use Rattle.causes.specs.Clocks.{lower_first, noted_clock, outside_drift_lines}
use Rattle.causes.specs.RunSlots.{RunSlot, RunSlots, entry_in_slot, spots_at_node}
use Rattle.causes.specs.declared.cause.ClockNote.{ClockNote}
use Rattle.causes.specs.declared.cause.ScriptLine.{ScriptLine}
use Rattle.causes.specs.declared.cause.Spot.{Spot}
use Rattle.ttp_world.specs.declared.medl.Medl.{Medl}

-- node x's entries in some slots that gave no clock, from the slot on in which its stint began
abbrev pub unread_in : Medl → ℕ → ℕ → RunSlots → List Spot
unread_in list x stint slots =
    spots_at_node x (filter (λ s. nat_le stint s.begun.number && is_unread list (entry_in_slot x s)) slots)

-- the jumps of the clocks of sender p and receiver k, and their errors and drifts that are out of specification
abbrev pub both_jumps : ℕ → ℕ → RunSlot → RunSlots → List ScriptLine
both_jumps p k s before = jumps_borne p (s ∷ before) ++ jumps_borne k (s ∷ before)

abbrev pub outside_lines : ℕ → ℕ → RunSlot → List ScriptLine
outside_lines p k s = error_lines k s ++ (outside_drift_lines p s ++ outside_drift_lines k s)

-- what is said of two nodes, and of the lower of them first
abbrev pub two_noted : ℕ → ℕ → RunSlot → RunSlots → List NotedClock
two_noted x y s before = map (λ x. noted_clock x s before) (x ∷ y ∷ [])

abbrev pub both_noted : ℕ → ℕ → RunSlot → RunSlots → List NotedClock
both_noted p k s before = map (λ x. noted_clock x s before) (lower_first p k)

abbrev pub entries_noted : List NotedClock → List Spot
entries_noted noted = flat_map (λ n. n.entries) noted

abbrev pub notes_noted : List NotedClock → List ClockNote
notes_noted noted = map (λ n. n.note) noted
