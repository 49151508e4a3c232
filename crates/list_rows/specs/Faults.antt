-- Faults of a list and their places as the cases write them.
use Rattle.std.specs.Prelude.{ℕ, List, [], ◌∷◌, ◌++◌, codes, Some, None}
use Rattle.medl_text.specs.declared.error.FieldName.TheVariants as names
use Rattle.list_errors.specs.declared.error.ValueType.TheVariants as types
use Rattle.list_errors.specs.declared.error.Wrong.{Wrong}
use Rattle.list_errors.specs.declared.error.Wrong.TheVariants as wrong
use Rattle.list_places.specs.declared.lines.Place.{Place}

-- a line and a column
abbrev pub at_line : ℕ → ℕ → Place
at_line l c = record { line = l; column = c }

-- an unknown key at the top and one in the slot, which has no payload; the list has no rounds
abbrev pub few_faults : List Wrong
few_faults =
    wrong.Missing (record { name = names.Rounds; slot = None })
    ∷ wrong.SlotCount 1
    ∷ wrong.Missing (record { name = names.DataSize; slot = Some 0 })
    ∷ wrong.Unknown None (codes "drfit")
    ∷ wrong.Unknown (Some 0) (codes "synch")
    ∷ []

-- a header for the kinds of slot 0, and one that no list has
abbrev pub header_faults : List Wrong
header_faults =
    wrong.WrongKind (record { name = names.Kinds; slot = Some 0 }) types.Table
    ∷ wrong.Missing (record { name = names.DataSize; slot = Some 0 })
    ∷ wrong.Unknown None (codes "other")
    ∷ []

-- an unknown key of the first element, and what the second does not have
abbrev pub element_faults : List Wrong
element_faults =
    wrong.Unknown (Some 0) (codes "x")
    ∷ wrong.Missing (record { name = names.DataSize; slot = Some 1 })
    ∷ wrong.NoSync 0
    ∷ []

-- a list with three keys that are misspelt or in the wrong place, and its faults
abbrev pub misspelt_text : List ℕ
misspelt_text =
    codes "version = 1\nrounds = 2\nschedule = 7\nbuffers = 2\ndrfit = 2\nerror = 1\nwindow = 50\n\n"
    ++ (codes "[[slot]]\nkinds = \"II\"\ndata = 0\nsynch = true\nstart = true\n\n"
    ++ (codes "[[slot]]\nkinds = \"NX\"\ndata = 8\nsync = true\nstart = true\n\n"
    ++ (codes "[[slot]]\nkinds = \"II\"\ndata = 0\nsync = true\nstart = false\n\n"
    ++ (codes "modes = 2\n\n"
    ++ (codes "[[slot]]\nkinds = \"IN\"\ndata = 4\nsync = true\nstart = false\n\n"
    ++ (codes "[[slot]]\nkinds = \"II\"\ndata = 0\nsync = true\nstart = false\n"))))))

abbrev pub misspelt_faults : List Wrong
misspelt_faults =
    wrong.Missing (record { name = names.Drift; slot = None })
    ∷ wrong.Missing (record { name = names.Sync; slot = Some 0 })
    ∷ wrong.Unknown None (codes "drfit")
    ∷ wrong.Unknown (Some 0) (codes "synch")
    ∷ wrong.Unknown (Some 2) (codes "modes")
    ∷ []
