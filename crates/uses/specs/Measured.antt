-- Measurements as messages of a ring, and what a reader may say of them.
use Rattle.std.specs.Prelude.{ℕ, List, [], ◌∷◌}
use Rattle.std.specs.List.{Contains}
use Rattle.uses.specs.declared.ring.newest.Measurement.{Measurement}
use Rattle.uses.specs.declared.ring.newest.Seen.{Seen}
use Rattle.uses.specs.declared.ring.newest.Seen.TheVariants as seen

-- the message of a measurement: its two words
abbrev pub measured_words : Measurement → List ℕ
measured_words m = m.value ∷ m.time ∷ []

-- it is one of those that were measured, whole, or it says that there is none
abbrev pub SaysOneOf : List Measurement → Seen → Type 0
SaysOneOf measured (seen.Newest m) = Contains measured m
SaysOneOf measured seen.Nothing = Unit {0}
SaysOneOf measured seen.Overtaken = Unit {0}
