-- A run by the message numbers that its trace names, and what it stands for.
use Rattle.std.specs.Prelude.{◌≡◌, ℕ, ◌+◌, ◌-◌, ◌<◌, true, List, ◌∷◌, length, drop}
use Rattle.ttp_base.specs.Text.{Lines, lines_of}
use Rattle.ttp_world.specs.declared.medl.Medl.{Medl}
use Rattle.ttp_world.specs.declared.node.Chosen.{Chosen}
use Rattle.ttp_world.specs.declared.node.Entry.{Entry}
use Rattle.ttp_world.specs.declared.script.Script.{Script}
use Rattle.ttp_world.specs.Diary.{History}
use Rattle.ttp_world.specs.Legal.{IsLegalRun}
use Rattle.ttp_world.specs.Messages.{messages_of}
use Rattle.ttp_world.specs.Trace.{trace_head, history_lines, trace_lines}
use Rattle.ttp_world.specs.World.{Numbers, chosen_of, frames_in, is_loaded, row_in, slot_after, world}
use Rattle.controller.specs.Passes.{AreChosen, CarriesFrames, IsOutcomeOf}
use Rattle.controller.specs.PlantStands.{PlantStandsFor, outcome_at}
use Rattle.controller.specs.PlantView.{PlantView}
use Rattle.trace_check.specs.Outgoing.{HasChosen, HoldsNewest}
use Rattle.trace_run.specs.declared.run.TraceRun.{TraceRun}

-- Between two slots.

-- a run stands for these numbers
pub record TraceStandsFor (run : TraceRun) (list : Medl) (script : Script) (numbers : Numbers) : Type 0 where
  pub same : run.plant.list ≡ list
  pub plant : PlantStandsFor run.plant script (world list script numbers)
  pub outgoing : HoldsNewest run.outgoing list script (length numbers)

-- the numbers of the first slots of a run, so many
abbrev pub first_numbers : Script → Numbers → ℕ → Numbers
first_numbers script whole slot = drop (script.slots - slot) whole

-- the lines of a trace up to those of the first slots
abbrev pub first_lines : Medl → Script → Numbers → Lines
first_lines list script numbers = trace_head list script ∷ history_lines list script (world list script numbers) numbers

-- a text is what is left of the trace of legal numbers behind the lines of the first slots
pub record IsTextLeft (list : Medl) (script : Script) (whole : Numbers) (slot : ℕ) (text : List ℕ) : Type 0 where
  pub legal : IsLegalRun list script whole
  pub lines : lines_of text
      ≡ drop (length (first_lines list script (first_numbers script whole slot))) (trace_lines list script whole)

-- after so many slots of a run by legal numbers, this is left of a text that is its trace
pub record IsTraceAt (run : TraceRun) (list : Medl) (script : Script) (whole : Numbers) (slot : ℕ) (text : List ℕ)
    : Type 0 where
  pub left : IsTextLeft list script whole slot text
  pub stands : TraceStandsFor run list script (first_numbers script whole slot)

-- after so many slots this is left of a text that is the trace of some legal numbers
pub record IsTraceSomewhere (run : TraceRun) (list : Medl) (script : Script) (slot : ℕ) (text : List ℕ) : Type 0 where
  pub whole : Numbers
  pub at : IsTraceAt run list script whole slot text

-- Where a slot was made.

-- A plant is past the slot of a row after a history, in which these messages were chosen.
pub record HasMade (plant : PlantView) (chosen : List Chosen) (list : Medl) (script : Script) (row : List Entry)
    (history : History) : Type 0 where
  pub same : plant.list ≡ list
  pub stands : PlantStandsFor plant script (row ∷ history)
  pub count : length chosen ≡ length list.slots
  -- the row is that of these messages, and where a frame carries one it is the one that the row tells
  pub follows : row ≡ row_in (slot_after list script history) chosen
  pub told : (k : ℕ) → k < length list.slots → is_loaded (slot_after list script history) k ≡ true
      → chosen_of chosen k ≡ chosen_of (messages_of list script (length history) row) k
  -- it has as much payload as the list gives the frame
  pub sizes : AreChosen (slot_after list script history) chosen
  -- what the slot left for each host
  pub outcomes : (k : ℕ) → k < length list.slots → IsOutcomeOf list script history chosen k (outcome_at plant k)
  -- the frames that the row tells lie on the medium
  pub carries : CarriesFrames (slot_after list script history)
      (frames_in (slot_after list script history) (messages_of list script (length history) row)) plant.carried

-- the slot that follows the first ones was made, whose lines stand at the front of the text
pub record IsMade (run : TraceRun) (list : Medl) (script : Script) (whole : Numbers) (slot : ℕ) (text : List ℕ)
    : Type 0 where
  pub left : IsTextLeft list script whole slot text
  pub row : List Entry
  pub next : world list script (first_numbers script whole (slot + 1))
      ≡ row ∷ world list script (first_numbers script whole slot)
  pub long : length (world list script (first_numbers script whole slot)) ≡ slot
  pub made : HasMade run.plant run.outgoing.chosen.items list script row
      (world list script (first_numbers script whole slot))
  pub chosen : HasChosen run.outgoing list script slot

-- the slot that follows the first ones was made by some legal numbers, and its lines stand at the front of the text
pub record IsMadeSomewhere (run : TraceRun) (list : Medl) (script : Script) (slot : ℕ) (text : List ℕ) : Type 0 where
  pub whole : Numbers
  pub made : IsMade run list script whole slot text
