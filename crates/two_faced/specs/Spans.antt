-- The least and the greatest of the clocks so far.
use Rattle.std.specs.Prelude.{◌^◌, ◌≤◌, ℤ, unsigned_abs, Option, Some, None}
use Rattle.std.specs.Int.{int_min, int_max}
use Rattle.two_faced.specs.declared.seen.Span.{Span}

-- one clock more
abbrev pub with_clock : Option Span → ℤ → Span
with_clock None z = record { least = z; greatest = z }
with_clock (Some span) z = record { least = int_min span.least z; greatest = int_max span.greatest z }

-- no clock of a run is further from 0
abbrev pub IsNearClock : ℤ → Type 0
IsNearClock z = unsigned_abs z ≤ 2 ^ 53

-- the least and the greatest of some clocks are so
abbrev pub IsNearSpan : Span → Type 0
IsNearSpan span = IsNearClock span.least × IsNearClock span.greatest
