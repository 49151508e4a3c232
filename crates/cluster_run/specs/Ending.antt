-- What a controller hands on to its host at the end of a slot.
use Rattle.std.specs.Prelude.{◌≡◌, ℕ, ◌+◌, ◌<◌, ◌≤◌, List, length, map, get_or, All, Option, Some, None, option_map}
use Rattle.std.specs.Option.{ForSome}
use Rattle.medium.specs.Carried.{Carried}
use Rattle.ttp_world.specs.declared.medl.Medl.{Medl}
use Rattle.ttp_world.specs.declared.node.Chosen.{Chosen}
use Rattle.ttp_world.specs.declared.node.Delivered.{Delivered}
use Rattle.ttp_world.specs.declared.script.Script.{Script}
use Rattle.ttp_world.specs.declared.script.Source.TheVariants as source
use Rattle.ttp_world.specs.declared.script.TheConstants.{SLOT_LIMIT, DRIFT_LIMIT}
use Rattle.ttp_world.specs.Diary.{History}
use Rattle.ttp_world.specs.Medl.{IsValid}
use Rattle.ttp_world.specs.Script.{IsWithinSpan}
use Rattle.ttp_world.specs.Words.{words_of_payload}
use Rattle.ttp_world.specs.World.{slot_after, frames_in}
use Rattle.controller.specs.declared.controller.Outcome.{Outcome}
use Rattle.controller.specs.Limits.{IsPlanned}
use Rattle.controller.specs.Passes.{HavePlanned, CarriesFrames, HaveEnded, delivered_at}
use Rattle.controller.specs.PlantWithin.{most_ahead, most_ahead_in, IsEnded, AreSeats, AreIncidents, IsFromWithin}
use Rattle.controller.specs.PlantStands.{no_outcome, outcomes_of}
use Rattle.controller.specs.declared.seat.Seat.{Seat}
use Rattle.host_port.specs.Rings.{ControllerState, at_source}
use Rattle.host_port.specs.Writing.{written_at, HasRoom, Takes}
use Rattle.cluster_run.specs.declared.nodes.Desk.{Desk}
use Rattle.cluster_run.specs.Ends.{rings_of, end_at, desk_ends, desk_numbers}
use Rattle.cluster_run.specs.Sending.{message_count}

-- an end once this was delivered, if anything was
abbrev pub delivered_to : ControllerState → Option Delivered → ControllerState
delivered_to end None = end
delivered_to end (Some got) = written_at end (source.Node got.sender) (words_of_payload got.payload)

-- a node's end once the slot was handed on to its host: what was delivered, and then the status
abbrev pub handed_on : ControllerState → Outcome → ControllerState
handed_on end outcome = written_at (delivered_to end outcome.delivered) source.Status outcome.status.words

-- the number of what is delivered, in its sender's ring
abbrev pub number_handed : ControllerState → Option Delivered → Option ℕ
number_handed end delivered = option_map (λ got. message_count (at_source end (source.Node got.sender))) delivered

-- there is room for the status, and the sender's ring takes what is delivered, if anything is
pub record MayHandOn (end : ControllerState) (delivered : Option Delivered) : Type 0 where
  pub status : HasRoom (at_source end source.Status)
  pub takes : ForSome delivered (λ got. Takes (at_source end (source.Node got.sender)) (length got.payload))
  pub room : ForSome delivered (λ got. HasRoom (at_source end (source.Node got.sender)))

-- The controllers of the nodes from a first one on have planned some slot, the medium carries its frames, and each may
-- hand on what its node delivers in it.
pub record MayEnd (list : Medl) (script : Script) (carried : Carried) (first : ℕ) (seats : List Seat)
    (ends : List ControllerState) : Type 0 where
  pub history : History
  pub chosen : List Chosen
  pub planned : HavePlanned (slot_after list script history) chosen first seats
  pub carries : CarriesFrames (slot_after list script history)
      (frames_in (slot_after list script history) chosen) carried
  pub hands_on : (j : ℕ) → j < length ends
      → MayHandOn (end_at ends j) (delivered_at (slot_after list script history) chosen (first + j))

-- what the slot left for the host of one of them
abbrev pub outcome_of : List Outcome → ℕ → Outcome
outcome_of outcomes j = get_or outcomes j no_outcome

-- each has handed on what the slot left, and the number of what was delivered is kept
pub record HaveHandedOn (outcomes : List Outcome) (old new : List ControllerState) (numbers : List (Option ℕ)) : Type 0
  where
    pub ends : (j : ℕ) → j < length old → end_at new j ≡ handed_on (end_at old j) (outcome_of outcomes j)
    pub numbers_are : (j : ℕ) → j < length old
        → get_or numbers j None ≡ number_handed (end_at old j) (outcome_of outcomes j).delivered

-- A part of the nodes, those from a first one on, before the end of a slot: there is a desk for each of them, their
-- controllers have planned, and what each hands on has room.
pub record IsPartReady (l : Medl) (sc : Script) (carried : Carried) (first : ℕ) (seats : List Seat) (desks : List Desk)
    : Type 0 where
  pub list : IsValid l
  pub nodes : first + length seats ≤ length l.slots
  pub drifts : length sc.drift ≡ length l.slots
  pub drift : All (IsWithinSpan DRIFT_LIMIT) sc.drift
  pub slot : carried.slot < SLOT_LIMIT
  pub medium : IsFromWithin carried sc (most_ahead_in carried.slot)
  pub incidents : AreIncidents sc carried.slot first seats
  pub seats_are : AreSeats l IsPlanned (most_ahead_in carried.slot) first seats
  pub count : length desks ≡ length seats
  pub may : MayEnd l sc carried first seats (desk_ends desks)

-- the controllers of a part have ended the slot, and have handed on what it left
pub record HasPartEnded (l : Medl) (sc : Script) (carried : Carried) (first : ℕ) (seats seats' : List Seat)
    (desks desks' : List Desk) : Type 0 where
  pub count : length seats' ≡ length seats
  pub seats_are : AreSeats l IsEnded (most_ahead (carried.slot + 1)) first seats'
  pub end : (history : History) (chosen : List Chosen) → HavePlanned (slot_after l sc history) chosen first seats
      → CarriesFrames (slot_after l sc history) (frames_in (slot_after l sc history) chosen) carried
      → HaveEnded l sc history chosen first seats'
  pub rings : map rings_of (desk_ends desks') ≡ map rings_of (desk_ends desks)
  pub handed : HaveHandedOn (outcomes_of seats') (desk_ends desks) (desk_ends desks') (desk_numbers desks')
