-- What contracts see of a controller.
use Rattle.std.specs.Prelude.{ℕ}
use Rattle.ttp_world.specs.declared.medl.Medl.{Medl}
use Rattle.ttp_world.specs.Past.{NodePast}
pub use Rattle.controller.specs.declared.turn.Turn.{Turn}
pub use Rattle.controller.specs.declared.turn.Turn.TheVariants.{Ended, Begun, Planned}

-- a controller: its list, its node, what it keeps of the past, its number of slots and its turn in the slot
pub record ControllerView : Type 0 where
  pub list : Medl
  pub node : ℕ
  -- what it keeps of its node's past before this slot
  pub past : NodePast
  -- how many slots it has ended
  pub slots : ℕ
  pub turn : Turn
