use Rattle.std.proofs.Common.{◌≡◌, ℕ, ◌+◌, ◌*◌, ◌<◌, ◌≤◌, length}
use denote.Text.{Utf8}
use denote.Shadow.{shadow}
use Rattle.toml_walk.specs.Names.{Noted, nothing_noted}
use Rattle.toml_walk.specs.Reading.{NamesStandFor}
use Rattle.toml_walk.specs.Walk.{value, items, members}
use Rattle.toml_walk.proofs.walk.+value.Given as goal

abbrev pub decreases-value : goal.decreases-value
decreases-value l = 3 * l.depth + 1

abbrev pub decreases-array_turn : goal.decreases-array_turn
decreases-array_turn l = 3 * l.depth + 2

abbrev pub decreases-member_turn : goal.decreases-member_turn
decreases-member_turn l = 3 * l.depth + 2

abbrev pub decreases-array : goal.decreases-array
decreases-array l = 3 * l.depth + 3

abbrev pub decreases-inline_table : goal.decreases-inline_table
decreases-inline_table l = 3 * l.depth + 3

-- the text that is left is the end of the whole, and what is read of it is what is read of the whole
abbrev pub invariant-array-items : goal.invariant-array-items
invariant-array-items l =
    shadow (Utf8 l.rest) × (length l.rest ≤ length l.fn.s)
    × ((n : ℕ) → length l.fn.s < n → (m : ℕ) × (length l.rest < m)
    × (items (value l.fn.depth) n l.fn.s ≡ items (value l.fn.depth) m l.rest))

abbrev pub decreases-array-items : goal.decreases-array-items
decreases-array-items l = length l.rest

abbrev pub invariant-inline_table-members : goal.invariant-inline_table-members
invariant-inline_table-members l =
    shadow (Utf8 l.rest) × (length l.rest ≤ length l.fn.s)
    × ((n : ℕ) → length l.fn.s < n → (m : ℕ) × (length l.rest < m)
    × (noted : Noted) × (NamesStandFor l.names noted)
    × (members (value l.fn.depth) n nothing_noted l.fn.s ≡ members (value l.fn.depth) m noted l.rest))

abbrev pub decreases-inline_table-members : goal.decreases-inline_table-members
decreases-inline_table-members l = length l.rest
