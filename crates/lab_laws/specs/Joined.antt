-- Ranges that join, and the one that they make up.
use Rattle.std.specs.Prelude.{◌≡◌, ◌+◌, List, [], ◌∷◌}
use Rattle.campaign.specs.declared.cost.Span.{Span}

-- each begins in the slot behind the one before
abbrev pub AreJoined : Span → List Span → Type 0
AreJoined range [] = Unit {0}
AreJoined range (next ∷ ranges) = (next.first ≡ range.last + 1) × AreJoined next ranges

-- from the first slot of the first to the last of the last
abbrev pub whole_range : Span → List Span → Span
whole_range range [] = range
whole_range range (next ∷ ranges) = record { first = range.first; last = (whole_range next ranges).last }
