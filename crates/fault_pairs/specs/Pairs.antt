-- The pairs of faults that are tried: each fault that a campaign tries is the first of some, and what is tried behind
-- it, in its slot or up to so many slots later, is the second.
use Rattle.std.specs.Prelude.{ℕ, suc, ◌+◌, ◌-◌, List, [], ◌∷◌, ◌++◌, map, flat_map}
use Rattle.ttp_world.specs.declared.medl.Medl.{Medl}
use Rattle.ttp_world.specs.declared.script.Event.{Event}
use Rattle.ttp_world.specs.declared.script.Script.{Script}
use Rattle.ttp_world.specs.Diary.{History}
use Rattle.campaign.specs.Tried.{with_fault, faults_in, row_of, slots_between}
use Rattle.ttp_world.specs.ZerosWorld.{zeros_world}

-- First faults.

-- a fault, the slot in which it begins, and those that stand behind it among the faults that are tried in this slot
pub record FirstFault : Type 0 where
  pub slot : ℕ
  pub fault : Event
  pub behind : List Event

-- each fault of a slot, with those behind it
abbrev pub firsts_among : ℕ → List Event → List FirstFault
firsts_among slot [] = []
firsts_among slot (fault ∷ faults) = record { slot = slot; fault = fault; behind = faults } ∷ firsts_among slot faults

-- those of a slot, by the history of the script's own run
abbrev pub firsts_in : Medl → Script → History → ℕ → List FirstFault
firsts_in list script history slot = firsts_among slot (faults_in list script (row_of history slot) slot)

-- the first faults of a range of slots, in the order of a campaign
abbrev pub firsts_from : Medl → Script → History → ℕ → ℕ → List FirstFault
firsts_from list script history first last =
    flat_map (firsts_in list script history) (slots_between script first last)

-- Second faults.

-- a second fault, and how many slots behind the first one it begins
pub record SecondFault : Type 0 where
  pub apart : ℕ
  pub fault : Event

abbrev pub second_apart : ℕ → Event → SecondFault
second_apart apart fault = record { apart = apart; fault = fault }

-- those of the same slot
abbrev pub seconds_beside : FirstFault → List SecondFault
seconds_beside one = map (second_apart 0) one.behind

-- those of a later slot: what a campaign tries there whose script has the first fault, by the history of its run
abbrev pub seconds_in : Medl → Script → History → ℕ → ℕ → List SecondFault
seconds_in list script history slot later =
    map (second_apart (later - slot)) (faults_in list script (row_of history later) later)

-- those of the slots behind, so many, which the script has
abbrev pub seconds_behind : Medl → Script → History → ℕ → ℕ → List SecondFault
seconds_behind list script history slot within =
    flat_map (seconds_in list script history slot) (slots_between script (suc slot) (slot + within))

-- the second faults of a first one, in their order
abbrev pub seconds_of : Medl → Script → ℕ → FirstFault → List SecondFault
seconds_of list script within one =
    let more = with_fault script one.fault in
    seconds_beside one ++ seconds_behind list more (zeros_world list more script.slots) one.slot within
