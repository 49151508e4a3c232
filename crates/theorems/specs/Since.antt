-- What holds of a run after each of its slots from one on.
--
-- A history has its newest slot first, and its length is the number of the slot after it.
use Rattle.std.specs.Prelude.{ℕ, ◌<◌, ◌≤◌, ◌-◌, length, drop}
use Rattle.ttp_world.specs.Diary.{History}

-- what a history was when its first slots, so many, had come
abbrev pub after_slots : ℕ → History → History
after_slots count history = drop (length history - count) history

-- something holds after each slot of a history from this one on
abbrev pub HoldsSince : (History → Type 0) → ℕ → History → Type 0
HoldsSince holds start history =
    (count : ℕ) → start < count → count ≤ length history → holds (after_slots count history)
