-- Reading errors of a slot.
use Rattle.std.specs.Prelude.{ℕ, ℤ, Bool, true, false}
use Rattle.std.specs.List.{list_all}
use Rattle.ttp_world.specs.declared.medl.Medl.{Medl}
use Rattle.ttp_world.specs.declared.script.Event.{Event}
use Rattle.ttp_world.specs.declared.script.Event.TheVariants as event
use Rattle.ttp_world.specs.declared.script.Script.{Script}
use Rattle.ttp_world.specs.Hypothesis.{is_within_bound, nodes_of}
use Rattle.ttp_world.specs.Script.{reading_error}

-- those of each node add up to no more than a bound, either way
abbrev pub errors_hold_within : Medl → Script → ℤ → ℕ → Bool
errors_hold_within list script bound slot =
    list_all (λ k. is_within_bound bound (reading_error script k slot)) (nodes_of list)

-- an event is a reading error
abbrev pub is_error : Event → Bool
is_error (event.Error node value from to) = true
is_error _ = false
