-- Words of a file, as a line on them shows them.
use Rattle.std.specs.Prelude.{ℕ, ◌+◌, ◌-◌, Bool, not, ◌&&◌, ◌==◌, nat_le, nat_lt}
use Rattle.std.specs.Prelude.{nat_eq, List, [], ◌∷◌, ◌++◌, length, take}
use Rattle.std.specs.Prelude.{map, codes, Option, Some, None, if◌then◌else◌}
use Rattle.std.specs.List.{flat_map}
use Rattle.ttp_base.specs.Text.{byte_hex}
use Rattle.strsim.specs.Edits.{levenshtein_row}
use Rattle.check_words.specs.declared.nearest.Near.{Near}

-- What stands there.

-- a byte stands as it is: one of ASCII that prints, but no double quote and no backslash
abbrev pub is_plain_byte : ℕ → Bool
is_plain_byte b = (nat_le 32 b && nat_le b 126) && (not (b == 34) && not (b == 92))

-- a byte as it is shown
abbrev pub shown_byte : ℕ → List ℕ
shown_byte b = if is_plain_byte b then b ∷ [] else codes "\\x" ++ byte_hex b

-- so many bytes are shown
abbrev pub shown_most : ℕ
shown_most = 40

-- what stands behind a text of more
abbrev pub dots_for : List ℕ → List ℕ
dots_for word = if nat_lt shown_most (length word) then codes "..." else []

-- a word or a text of a file
unfoldable pub shown_word : List ℕ → List ℕ
shown_word word = codes "\"" ++ (flat_map shown_byte (take shown_most word) ++ (codes "\"" ++ dots_for word))

-- What is wanted.

-- a letter as a small one
abbrev pub small_letter : ℕ → ℕ
small_letter b = if nat_le 65 b && nat_le b 90 then b + 32 else b

-- how many bytes are to be put in, taken out or replaced at the least, to make a name of a word
abbrev pub edits : List ℕ → List ℕ → ℕ
edits word name = levenshtein_row nat_eq word name (length name)

-- the name at a place is near a word: at most two such bytes, and fewer than the name has
abbrev pub near_at : List ℕ → ℕ → List ℕ → Option Near
near_at word place name =
    if nat_le (edits word name) 2 && nat_lt (edits word name) (length name)
    then Some (record { distance = edits word name; place = place }) else None

-- the nearer one of two, the first of two as near
abbrev pub nearer_name : Near → Option Near → Near
nearer_name first None = first
nearer_name first (Some later) = if nat_lt later.distance first.distance then later else first

abbrev pub nearest_of : Option Near → Option Near → Option Near
nearest_of None later = later
nearest_of (Some first) later = Some (nearer_name first later)

-- the nearest of names, of which the first stands at a place
abbrev pub nearest_from : List ℕ → ℕ → List (List ℕ) → Option Near
nearest_from word place [] = None
nearest_from word place (name ∷ names) = nearest_of (near_at word place name) (nearest_from word (place + 1) names)

-- the nearest name of a table to a word, whose letters count as small ones
abbrev pub nearest_name : List ℕ → List (List ℕ) → Option Near
nearest_name word names = nearest_from (map small_letter word) 0 names

-- the name at a place
abbrev pub name_at : List (List ℕ) → ℕ → List ℕ
name_at [] place = []
name_at (name ∷ names) place = if place == 0 then name else name_at names (place - 1)

-- texts as one chooses among them: `a, b or c`
abbrev pub chosen : List (List ℕ) → List ℕ
chosen [] = []
chosen (name ∷ []) = name
chosen (name ∷ other ∷ []) = name ++ (codes " or " ++ other)
chosen (name ∷ names) = name ++ (codes ", " ++ chosen names)

-- the nearest name, where one is near, and else all of them
abbrev pub nearest_or_all : List (List ℕ) → Option Near → List ℕ
nearest_or_all names None = codes ", wanted " ++ chosen names
nearest_or_all names (Some near) = codes ", nearest " ++ name_at names near.place

-- a word that is none of these names
unfoldable pub meant : List ℕ → List (List ℕ) → List ℕ
meant word names = shown_word word ++ nearest_or_all names (nearest_name word names)
