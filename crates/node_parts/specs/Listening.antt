-- A listening node: how many silent slots it waits for, how many there were, and what it does by what it hears.
use Rattle.std.specs.Prelude.{ℕ, Bool, true, false}
use Rattle.node_parts.specs.declared.cold_start.heard.Heard.{Heard}
use Rattle.node_parts.specs.declared.cold_start.heard.Heard.TheVariants.{Silent, Other, Explicit}
use Rattle.node_parts.specs.declared.cold_start.heard.ListenMove.{ListenMove}
use Rattle.node_parts.specs.declared.cold_start.heard.ListenMove.TheVariants.{Wait, Join}

-- how many silent slots a node waits for before it starts, and how many the newest ones are by now
pub record Listening : Type 0 where
  pub limit : ℕ
  pub silent_slots : ℕ

-- the largest limit, at which the count of silent slots stops
abbrev pub most_silent : ℕ
most_silent = 65535

-- both channels were silent
abbrev pub is_silent : Heard → Bool
is_silent Silent = true
is_silent Other = false
is_silent (Explicit cstate) = false

-- what a listening node does then
abbrev pub listen_move : Heard → ListenMove
listen_move Silent = Wait
listen_move Other = Wait
listen_move (Explicit cstate) = Join cstate
