use Rattle.std.proofs.Common.{◌≡◌, ℕ, ◌<◌, ◌≤◌, List, ◌++◌, length}
use denote.Text.{Utf8}
use denote.Shadow.{shadow}
use Rattle.list_places.specs.Marks.{SlotPlace, element_places}
use Rattle.list_places.specs.Standing.{SlotsAre}
use Rattle.list_places.proofs.marks.note_elements.Given as goal

-- the slots so far and those of the text that is left are all
abbrev pub invariant-items : goal.invariant-items
invariant-items l =
    shadow (Utf8 l.rest) × (length l.rest ≤ length l.fn.s)
    × ((n : ℕ) (places : List SlotPlace) → length l.fn.s < n
    → SlotsAre l.fn.slots.items places → (m : ℕ) × (length l.rest < m)
    × (before : List SlotPlace) × SlotsAre l.slots.items before
    × (places ++ element_places n l.fn.s ≡ before ++ element_places m l.rest))

abbrev pub decreases-items : goal.decreases-items
decreases-items l = length l.rest
