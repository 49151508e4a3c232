-- A place, and the size of the cycle that it lies in.
use Rattle.std.specs.Prelude.{ℕ}
use Rattle.ttp_world.specs.Diary.{Place}

-- a place, and how many rounds its cycle has and how many slots a round
pub record PlaceInCycle : Type 0 where
  pub place : Place
  pub rounds : ℕ
  pub slots : ℕ
