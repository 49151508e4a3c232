-- What is past the bounds of a list, by which clocks, and how wide its window has to be.
use Rattle.std.specs.Prelude.{ℕ, ℤ, Bool, not, filter, find, Option, Some, None, option_map, int_le, if◌then◌else◌}
use Rattle.ttp_world.specs.declared.medl.Medl.{Medl}
use Rattle.ttp_world.specs.declared.script.Script.{Script}
use Rattle.ttp_world.specs.Hypothesis.{nodes_of, is_within_bound, drifts_hold, clocks_broken, needed}
use Rattle.ttp_world.specs.Returning.{needed_back}
use Rattle.ttp_world.specs.Script.{drift_of, reading_error}
use Rattle.broken_rules.specs.declared.clocks.PastBound.{PastBound}
use Rattle.broken_rules.specs.declared.clocks.PastBound.TheVariants as past

-- a number is further from 0 than a bound
abbrev pub is_past : ℤ → ℤ → Bool
is_past bound z = not (is_within_bound bound z)

-- the least node whose reading errors in a slot add up to more than the list's bound, with their sum
abbrev pub errors_past : Medl → Script → ℕ → Option PastBound
errors_past list script slot =
    option_map (λ k. past.Errors slot k (reading_error script k slot))
    (find (λ k. is_past list.error (reading_error script k slot)) (nodes_of list))

-- what is past a bound, where the rule on clocks names a slot: all drifts that are, and else the errors in that slot
abbrev pub past_bound_in : Medl → Script → Option ℕ → Option PastBound
past_bound_in list script None = None
past_bound_in list script (Some slot) =
    if drifts_hold list script then errors_past list script slot
    else Some (past.Drifts (filter (λ k. is_past list.drift (drift_of script k)) (nodes_of list)))

-- what is past a bound, if something is
abbrev pub past_bound : Medl → Script → Option PastBound
past_bound list script = past_bound_in list script (clocks_broken list script)

-- the slot that is named for it
abbrev pub past_slot : PastBound → ℕ
past_slot (past.Drifts nodes) = 0
past_slot (past.Errors slot node sum) = slot

-- how wide the window has to be, where it is narrower
abbrev pub narrow_window : Medl → Option ℤ
narrow_window list = if int_le (needed list) list.window then None else Some (needed list)

-- how wide the window has to be where nodes come back, if it is narrower
abbrev pub narrow_window_back : Medl → Option ℤ
narrow_window_back list = if int_le (needed_back list) list.window then None else Some (needed_back list)
