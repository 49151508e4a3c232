-- What lies on the medium in a slot.
use Rattle.std.specs.Prelude.{ℕ, ℤ}
use Rattle.ttp_world.specs.Medium.{Signal}

-- what is on a channel, and where that is bits, the clock of the node that sent them
pub record OnChannel : Type 0 where
  pub signal : Signal
  pub offset : ℤ

-- what is on both channels of a slot
pub record Carried : Type 0 where
  pub slot : ℕ
  pub a : OnChannel
  pub b : OnChannel
