-- A run of which causes are told.
use Rattle.std.specs.Prelude.{ℕ, ◌<◌, ◌-◌, List, All, drop, length}
use Rattle.causes.specs.RunSlots.{RunSlots, slots_of_run}
use Rattle.causes.specs.declared.cause.Spot.{Spot}
use Rattle.ttp_world.specs.Diary.{History}
use Rattle.ttp_world.specs.declared.medl.Medl.{Medl}
use Rattle.ttp_world.specs.declared.script.Script.{Script}

-- a list, a script for it, and what nodes did, the newest slot first
pub record RunSource : Type 0 where
  pub list : Medl
  pub script : Script
  pub history : History

-- its slots
abbrev pub source_slots : RunSource → RunSlots
source_slots source = slots_of_run source.list source.script source.history

-- the first so many slots of a run
abbrev pub slots_up_to : RunSlots → ℕ → RunSlots
slots_up_to run count = drop (length run - count) run

-- the entry of node k in a slot
abbrev pub spot_at : ℕ → ℕ → Spot
spot_at slot k = record { slot = slot; node = k }

-- an entry of a run's slots and nodes, and some
abbrev pub IsRunSpot : RunSource → Spot → Type 0
IsRunSpot source s = (s.slot < length source.history) × (s.node < length source.list.slots)

abbrev pub AreRunSpots : RunSource → List Spot → Type 0
AreRunSpots source spots = All (IsRunSpot source) spots
