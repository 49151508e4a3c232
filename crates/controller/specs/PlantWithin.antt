-- What is so of a cluster's controllers, whatever they stand for: whose they are, and that no clock is further from 0
-- than all that the script's limits allow so many slots.
use Rattle.std.specs.Prelude.{◌≡◌, ℕ, ◌+◌, ◌*◌, ◌^◌, ◌≤◌, ℤ, unsigned_abs, List, length}
use Rattle.ttp_world.specs.declared.events.Incidents.{Incidents}
use Rattle.ttp_world.specs.declared.medl.Medl.{Medl}
use Rattle.ttp_world.specs.declared.script.Script.{Script}
use Rattle.ttp_world.specs.declared.script.TheConstants.{SLOT_LIMIT, EVENT_LIMIT, JUMP_LIMIT, ERROR_LIMIT}
use Rattle.ttp_world.specs.Medium.{SentFrame}
use Rattle.ttp_world.specs.Medl.{IsValid}
use Rattle.ttp_world.specs.Script.{AreBounded, incidents_of}
use Rattle.medium.specs.Carried.{Carried}
use Rattle.medium.specs.StandsFor.{MediumStandsFor}
use Rattle.controller.specs.declared.seat.Seat.{Seat}
use Rattle.controller.specs.Limits.{view_clock}
use Rattle.controller.specs.Parts.{EachFrom}
use Rattle.controller.specs.ControllerView.{Turn, Ended, ControllerView}

-- How far a clock may be from 0, in microticks.

-- a slot moves it no further than this: by its jumps, an error of reading, its drift and a correction
abbrev pub slot_reach : ℕ
slot_reach = 2 ^ 38

-- after so many slots
abbrev pub most_ahead : ℕ → ℕ
most_ahead slot = slot * slot_reach

-- the jumps of one slot, and the reading errors of one, are within these
abbrev pub most_jump : ℕ
most_jump = EVENT_LIMIT * JUMP_LIMIT

abbrev pub most_error : ℕ
most_error = EVENT_LIMIT * ERROR_LIMIT

-- in a slot after its jumps
abbrev pub most_ahead_in : ℕ → ℕ
most_ahead_in slot = most_ahead slot + most_jump

-- Controllers.

-- no slot has begun, or the newest has ended
abbrev pub IsEnded : Turn → Type 0
IsEnded turn = turn ≡ Ended

-- node k's controller, at a turn of which this holds, with its clock within so much of 0
pub record IsControllerOf (l : Medl) (IsAt : Turn → Type 0) (bound k : ℕ) (view : ControllerView) : Type 0 where
  pub list : view.list ≡ l
  pub node : view.node ≡ k
  pub turn : IsAt view.turn
  pub clock : unsigned_abs (view_clock view) ≤ bound

-- those of the nodes from a first one on
abbrev pub AreSeats : Medl → (Turn → Type 0) → ℕ → ℕ → List Seat → Type 0
AreSeats list IsAt bound first seats = EachFrom first (λ k seat. IsControllerOf list IsAt bound k seat.controller) seats

-- The slot.

-- what happens to node k in a slot
pub record IsIncidentsOf (script : Script) (slot k : ℕ) (incidents : Incidents) : Type 0 where
  pub value : incidents ≡ incidents_of script k slot
  pub bounds : AreBounded incidents

-- to the nodes from a first one on
abbrev pub AreIncidents : Script → ℕ → ℕ → List Seat → Type 0
AreIncidents script slot first seats = EachFrom first (λ k seat. IsIncidentsOf script slot k seat.incidents) seats

-- what is on the medium was sent by nodes whose clocks are within so much of 0
pub record IsFromWithin (carried : Carried) (script : Script) (bound : ℕ) : Type 0 where
  pub frames : List SentFrame
  pub clock : ℕ → ℤ
  pub stands : MediumStandsFor carried script carried.slot frames clock
  pub near : (p : ℕ) → unsigned_abs (clock p) ≤ bound

-- a plant between two slots: a seat for each node, and no clock further than so many slots can take it
pub record IsPlantWithin (list : Medl) (slot : ℕ) (seats : List Seat) : Type 0 where
  pub valid : IsValid list
  pub few : slot ≤ SLOT_LIMIT
  pub count : length seats ≡ length list.slots
  pub are : AreSeats list IsEnded (most_ahead slot) 0 seats
