-- Runs of a script without some of its fault lines, and what they tell of a story.
use Rattle.std.specs.List.{filter_map, list_any}
use Rattle.std.specs.Prelude.{Bool, List, None, Option, Some, [], false, filter, not, suc, true, ℕ, ◌&&◌, ◌==◌, ◌||◌}
use Rattle.std.specs.Prelude.{◌∷◌}
use Rattle.std.specs.Str.{bytes_eq}
use Rattle.ttp_world.specs.ZerosWorld.{zeros_world}
use Rattle.causes.specs.Story.{is_fault_event}
use Rattle.causes.specs.declared.cause.ScriptLine.{ScriptLine}
use Rattle.ttp_world.specs.Diary.{diary_of, newest_entry}
use Rattle.ttp_world.specs.Trace.{entry_word}
use Rattle.ttp_world.specs.declared.medl.Medl.{Medl}
use Rattle.ttp_world.specs.declared.node.Entry.{Entry}
use Rattle.ttp_world.specs.declared.script.Event.{Event}
use Rattle.ttp_world.specs.declared.script.Script.{Script}
use Rattle.causes.specs.declared.cause.ScriptLine.TheVariants as line

-- the events of a script from a place on, of whose faults those at some places are kept
abbrev pub events_kept : List ℕ → ℕ → List Event → List Event
events_kept places place [] = []
events_kept places place (event ∷ events) =
    elim (not (is_fault_event event) || list_any (λ other. other == place) places) [
      | true ↦ event ∷ events_kept places (suc place) events
      | false ↦ events_kept places (suc place) events
    ]

-- a script without its fault lines but those at some places among its events
abbrev pub with_faults_at : List ℕ → Script → Script
with_faults_at places script = record script { events = events_kept places 0 script.events }

-- the entry of node k in a slot of a script's run
abbrev pub entry_in_run : Medl → Script → ℕ → ℕ → Entry
entry_in_run list script slot k = newest_entry (diary_of (zeros_world list script (suc slot)) k)

-- two entries have one word
abbrev pub is_same_word : Entry → Entry → Bool
is_same_word a b = bytes_eq (entry_word a) (entry_word b)

-- the places of the lines that state events
abbrev pub place_of_line : ScriptLine → Option ℕ
place_of_line (line.Event place) = Some place
place_of_line _ = None

abbrev pub places_of_lines : List ScriptLine → List ℕ
places_of_lines lines = filter_map place_of_line lines

-- the entry in a run in which of all fault lines these alone are left
abbrev pub entry_alone : Medl → Script → List ScriptLine → ℕ → ℕ → Entry
entry_alone list script lines slot k = entry_in_run list (with_faults_at (places_of_lines lines) script) slot k

-- the lines without one
abbrev pub is_same_line : ScriptLine → ScriptLine → Bool
is_same_line (line.Event a) (line.Event b) = a == b
is_same_line (line.On a) (line.On b) = a == b
is_same_line (line.Drift a) (line.Drift b) = a == b
is_same_line a b = false

abbrev pub without_line : List ScriptLine → ScriptLine → List ScriptLine
without_line lines l = filter (λ other. not (is_same_line other l)) lines

-- whether a line is needed: an entry has another word in the run without this line too
abbrev pub is_needed : Medl → Script → List ScriptLine → ℕ → ℕ → Entry → ScriptLine → Bool
is_needed list script lines slot k e l =
    not (is_same_word e (entry_alone list script (without_line lines l) slot k))

-- each fault among some events stands at one of some places, where the first event has this place
abbrev pub names_faults_from : List ℕ → ℕ → List Event → Bool
names_faults_from places place [] = true
names_faults_from places place (event ∷ events) =
    (not (is_fault_event event) || list_any (λ other. other == place) places)
    && names_faults_from places (suc place) events

-- some lines are all fault lines of a script, and may be others too
abbrev pub names_all_faults : List ScriptLine → Script → Bool
names_all_faults lines script = names_faults_from (places_of_lines lines) 0 script.events
