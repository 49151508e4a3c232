-- The numbers that the generator draws, each by its place among all that are drawn, counted from 0.
use Rattle.std.specs.Prelude.{ℕ, zero, suc, ◌+◌, ◌*◌, ◌/◌, ◌%◌, ◌^◌}
use Rattle.script_gen.specs.declared.draws.TheConstants.{MULTIPLIER, INCREMENT}

-- the state after one draw more
unfoldable pub next_state : ℕ → ℕ
next_state state = (state * MULTIPLIER + INCREMENT) % 2 ^ 64

-- after so many draws, where it began at a number
abbrev pub state_after : ℕ → ℕ → ℕ
state_after number zero = number
state_after number (suc count) = next_state (state_after number count)

-- what a draw gives is the upper 31 bits of the state that it leaves
unfoldable pub drawn : ℕ → ℕ → ℕ
drawn number place = state_after number (suc place) / 2 ^ 33
