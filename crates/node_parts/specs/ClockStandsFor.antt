-- What a slot clock stands for. Contracts see it as a place, and the size of the cycle that it lies in.
use Rattle.std.specs.Prelude.{◌≡◌, length}
use Rattle.ttp_world.specs.declared.medl.Medl.{Medl}
use Rattle.ttp_world.specs.Diary.{Place, next_place}
use Rattle.node_parts.specs.PlaceInCycle.{PlaceInCycle}

-- it is at this place of the list's cycle
pub record ClockStandsFor (clock : PlaceInCycle) (list : Medl) (there : Place) : Type 0 where
  pub place : clock.place ≡ there
  pub rounds : clock.rounds ≡ list.rounds
  pub slots : clock.slots ≡ length list.slots

-- whatever place the one was at, the other is at the next one
abbrev pub StandsAtNext : PlaceInCycle → PlaceInCycle → Type 0
StandsAtNext old new =
    (list : Medl) (place : Place) → ClockStandsFor old list place → ClockStandsFor new list (next_place list place)
