-- What a plant stands for: a history of its cluster under a script.
use Rattle.std.specs.Prelude.{◌≡◌, ℕ, ◌<◌, List, [], ◌∷◌, length, map, get_or, replicate, None}
use Rattle.ttp_world.specs.declared.medl.Medl.{Medl}
use Rattle.ttp_world.specs.declared.node.Chosen.{Chosen}
use Rattle.ttp_world.specs.declared.node.NodeState.{NodeState}
use Rattle.ttp_world.specs.declared.script.Script.{Script}
use Rattle.ttp_world.specs.Diary.{History}
use Rattle.ttp_world.specs.Past.{state_of}
use Rattle.ttp_world.specs.World.{slot_after, row_in, node_past, frames_in}
use Rattle.medium.specs.Carried.{Carried}
use Rattle.controller.specs.declared.controller.Outcome.{Outcome}
use Rattle.controller.specs.declared.seat.Seat.{Seat}
use Rattle.controller.specs.Parts.{EachFrom}
use Rattle.controller.specs.Passes.{ArePayloadsBefore, CarriesFrames, IsOutcomeOf, StandAfter}
use Rattle.controller.specs.PlantView.{PlantView}
use Rattle.controller.specs.PlantWithin.{AreSeats, IsEnded, most_ahead}
use Rattle.controller.specs.StandsFor.{ControllerStandsFor}

-- each controller is its node's, and stands for the node's diary and for what came to the node from outside
pub record PlantStandsFor (plant : PlantView) (script : Script) (history : History) : Type 0 where
  pub slot : plant.slot ≡ length history
  pub count : length plant.seats ≡ length plant.list.slots
  pub are : AreSeats plant.list IsEnded (most_ahead plant.slot) 0 plant.seats
  pub seats : StandAfter script history 0 plant.seats

-- the plant of a list after so many slots
abbrev pub plant_of : Medl → ℕ → List Seat → Carried → PlantView
plant_of list slot seats carried = record { list = list; slot = slot; seats = seats; carried = carried }

-- What is left for hosts: nothing before the first slot, and then what the newest one left.

-- what is left for a host before the first slot
abbrev pub no_outcome : Outcome
no_outcome = record { delivered = None; status = record { words = replicate 4 0 } }

-- nothing is left for any host before the first slot
abbrev pub no_outcomes : Medl → List Outcome
no_outcomes list = replicate (length list.slots) no_outcome

-- what the newest slot left for each host
abbrev pub outcomes_of : List Seat → List Outcome
outcomes_of seats = map (λ (seat : Seat). seat.outcome) seats

-- that for node k's host
abbrev pub outcome_at : PlantView → ℕ → Outcome
outcome_at plant k = get_or (outcomes_of plant.seats) k no_outcome

-- A slot.

-- Where a node's frame is to carry a message in the slot that comes, the one that is chosen has as much payload as the
-- list gives the node. What the frame is to carry is told by what the node's controller keeps, and by this script.
abbrev pub MayStep : PlantView → Script → List Chosen → Type 0
MayStep plant script chosen = ArePayloadsBefore script plant.slot chosen 0 plant.seats

-- a slot takes a plant from a history to the history with one row more
pub record IsStep (new : PlantView) (script : Script) (history : History) (chosen : List Chosen) : Type 0 where
  pub stands : PlantStandsFor new script (row_in (slot_after new.list script history) chosen ∷ history)
  pub left : (k : ℕ) → k < length new.list.slots → IsOutcomeOf new.list script history chosen k (outcome_at new k)
  -- what was sent in it lies on the medium
  pub carries : CarriesFrames (slot_after new.list script history)
      (frames_in (slot_after new.list script history) chosen)
      new.carried

-- whatever history it stood for
abbrev pub Steps : PlantView → PlantView → Script → List Chosen → Type 0
Steps old new script chosen = (history : History) → PlantStandsFor old script history → IsStep new script history chosen

-- What is shown of a plant.

-- each controller stands for no entry
abbrev pub AllStandAtFirst : List Seat → Type 0
AllStandAtFirst seats = EachFrom 0 (λ k seat. ControllerStandsFor seat.controller [] []) seats

-- node k's state, whatever history it stands for
abbrev pub ShowsNode : PlantView → ℕ → NodeState → Type 0
ShowsNode plant k state =
    (script : Script) (history : History) → PlantStandsFor plant script history
    → state ≡ state_of (node_past plant.list script history k)
