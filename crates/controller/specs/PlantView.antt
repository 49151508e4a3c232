-- What contracts see of a plant: its nodes, each with what the newest slot left, how many slots there were, and what
-- lies on the medium.
use Rattle.std.specs.Prelude.{ℕ, List}
use Rattle.ttp_world.specs.declared.medl.Medl.{Medl}
use Rattle.medium.specs.Carried.{Carried}
use Rattle.controller.specs.declared.seat.Seat.{Seat}

-- a plant: its list, how many slots it has ended, a seat for each node, and what the newest slot left on the medium
pub record PlantView : Type 0 where
  pub list : Medl
  pub slot : ℕ
  pub seats : List Seat
  pub carried : Carried
