-- The words of a line, each with its place.
use Rattle.std.specs.Prelude.{ℕ, ◌+◌, ◌-◌, Bool, ◌&&◌, ◌==◌, List, [], ◌∷◌, map, take, drop, Option, Some, None}
use Rattle.std.specs.Prelude.{slice_index, if◌then◌else◌}
use Rattle.script_text.specs.Lines.{is_blank}
use Rattle.script_errors.specs.declared.spots.Spot.{Spot}

-- a word from one place up to another, counted from 0
abbrev pub spot : ℕ → ℕ → Spot
spot start end = record { start = start; end = end }

-- the words of what is left of a line from this place on, where the word that began at a place before goes on
abbrev pub spots_from : ℕ → Option ℕ → List ℕ → List Spot
spots_from place None [] = []
spots_from place (Some start) [] = spot start place ∷ []
spots_from place None (b ∷ bs) =
    if is_blank b then spots_from (place + 1) None bs else spots_from (place + 1) (Some place) bs
spots_from place (Some start) (b ∷ bs) =
    if is_blank b then spot start place ∷ spots_from (place + 1) None bs else spots_from (place + 1) (Some start) bs

-- the words of a line, from left to right
unfoldable pub spots_of : List ℕ → List Spot
spots_of line = spots_from 0 None line

-- the bytes of a word of a line
abbrev pub spot_text : List ℕ → Spot → List ℕ
spot_text line s = take (s.end - s.start) (drop s.start line)

-- the bytes of words of a line
abbrev pub spot_texts : List ℕ → List Spot → List (List ℕ)
spot_texts line spots = map (spot_text line) spots

-- A byte order mark.

-- bytes begin with a byte order mark, as UTF-8 has it
abbrev pub begins_with_mark : List ℕ → Bool
begins_with_mark word = (slice_index word 0 == 239) && ((slice_index word 1 == 187) && (slice_index word 2 == 191))

-- the words behind the mark with which the first of them begins: that one without it, where it has other bytes
abbrev pub behind_mark : List Spot → List Spot
behind_mark [] = []
behind_mark (first ∷ spots) =
    if first.start + 3 == first.end then spots else spot (first.start + 3) first.end ∷ spots
