-- The faults of a text, as a list in the order in which they are looked for.
use Rattle.std.specs.Prelude.{List, [], ◌∷◌, Option, Some, None}

-- the first one, if anything is wrong
abbrev pub first_fault : {X : Type 0} → List X → Option X
first_fault [] = None
first_fault (fault ∷ faults) = Some fault
