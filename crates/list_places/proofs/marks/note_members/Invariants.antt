use Rattle.std.proofs.Common.{◌≡◌, ℕ, ◌<◌, ◌≤◌, List, ◌++◌, length}
use denote.Text.{Utf8}
use denote.Shadow.{shadow}
use Rattle.list_places.specs.Marks.{KeyPlace, member_places}
use Rattle.list_places.specs.Standing.{AreKeys}
use Rattle.list_places.proofs.marks.note_members.Given as goal

-- the keys so far and those of the text that is left are all
abbrev pub invariant-members : goal.invariant-members
invariant-members l =
    shadow (Utf8 l.rest) × (length l.rest ≤ length l.fn.s)
    × ((n : ℕ) (places : List KeyPlace) → length l.fn.s < n → AreKeys l.fn.keys places → (m : ℕ) × (length l.rest < m)
    × (before : List KeyPlace) × AreKeys l.keys before
    × (places ++ member_places n l.fn.s ≡ before ++ member_places m l.rest))

abbrev pub decreases-members : goal.decreases-members
decreases-members l = length l.rest
