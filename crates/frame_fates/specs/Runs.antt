-- Runs of the world in which the messages that frames carry are as long as the list says, and are else any.
use Rattle.std.specs.Prelude.{◌≡◌, ℕ, ◌<◌, true, List, [], ◌∷◌, length, get_or, Option, Some, None}
use Rattle.ttp_world.specs.declared.medl.Medl.{Medl}
use Rattle.ttp_world.specs.declared.node.Chosen.{Chosen}
use Rattle.ttp_world.specs.declared.node.Entry.{Entry}
use Rattle.ttp_world.specs.declared.script.Script.{Script}
use Rattle.ttp_world.specs.Diary.{History}
use Rattle.ttp_world.specs.Medl.{plan_at}
use Rattle.ttp_world.specs.Outgoing.{out_messages}
use Rattle.ttp_world.specs.Script.{IsValidScript}
use Rattle.ttp_world.specs.World.{BegunSlot, Numbers, slot_after, is_loaded, chosen_of, row_in, world}

-- each frame of a slot that carries a message carries as many bytes as the list gives its node
abbrev pub HaveSizes : BegunSlot → List Chosen → Type 0
HaveSizes s chosen =
    (k : ℕ) → k < length s.list.slots → is_loaded s k ≡ true
    → length (chosen_of chosen k).payload ≡ (plan_at s.list k).payload

-- a row ends the slot after a history, by such messages
pub record IsRowAfter (list : Medl) (script : Script) (history : History) (row : List Entry) : Type 0 where
  pub chosen : List Chosen
  pub sizes : HaveSizes (slot_after list script history) chosen
  pub made : row ≡ row_in (slot_after list script history) chosen

-- each row of a history does
abbrev pub IsRun : Medl → Script → History → Type 0
IsRun list script [] = Unit {0}
IsRun list script (row ∷ history) = IsRowAfter list script history row × IsRun list script history

-- two runs of a valid script, of as many slots
pub record AreRuns (list : Medl) (script : Script) (one other : History) : Type 0 where
  pub valid : IsValidScript list script
  pub first : IsRun list script one
  pub second : IsRun list script other
  pub slots : length one ≡ length other

-- Runs by message numbers.

-- a number that is told of a node's frame, of a message that its host has written by the end of a slot
abbrev pub IsWritten : Medl → Script → ℕ → ℕ → Option ℕ → Type 0
IsWritten list script slot k None = ⊥
IsWritten list script slot k (Some i) = i < length (out_messages list script k slot)

-- for each frame of a run that carries a message such a number is told
abbrev pub NameMessages : Medl → Script → Numbers → Type 0
NameMessages list script [] = Unit {0}
NameMessages list script (new ∷ numbers) =
    ((k : ℕ) → k < length list.slots → is_loaded (slot_after list script (world list script numbers)) k ≡ true
    → IsWritten list script (length numbers) k (get_or new.sent k None))
    × NameMessages list script numbers
