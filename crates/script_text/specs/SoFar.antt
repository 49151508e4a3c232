-- What the reader keeps of the lines that it has read.
use Rattle.std.specs.Prelude.{◌≡◌, ℕ, ◌+◌, ◌*◌, ◌<◌, ◌==◌, ◌&&◌, Bool, true, false, List, [], ◌∷◌, length}
use Rattle.std.specs.Prelude.{vec_len, count_by, Some, None, Result, Ok, Err, slice_index, slice_index_or}
use Rattle.std.specs.Prelude.{if◌then◌else◌}
use Rattle.ttp_base.specs.Faults.{first_fault}
use Rattle.ttp_world.specs.declared.medl.Medl.{Medl}
use Rattle.ttp_world.specs.declared.script.Event.{Event}
use Rattle.script_text.specs.declared.error.LineFault.{LineFault}
use Rattle.script_text.specs.declared.error.Refusal.{Refusal}
use Rattle.script_text.specs.declared.error.Refusal.TheVariants as refusals
use Rattle.script_text.specs.declared.error.ScriptError.{ScriptError}
use Rattle.script_text.specs.declared.error.ScriptError.TheVariants as errors
use Rattle.script_text.specs.declared.keyword.Keyword.{Keyword}
use Rattle.script_text.specs.declared.keyword.Keyword.TheVariants as keyword
use Rattle.script_text.specs.declared.so_far.SoFar.{SoFar}
use Rattle.script_text.specs.declared.writes.WriteCounts.{WriteCounts}
use Rattle.script_text.specs.Statement.{Statement, says_event, statement_of}
use Rattle.script_text.specs.Faults.{slots_of, on_of, drift_stated, events_of, is_write_at, statement_faults}
use Rattle.script_text.specs.Faults.{stated_faults, form_faults, line_faults, statements_after}

-- How often hosts write.

-- how often a node's host writes in a slot: the counts of a slot's nodes stand together, slot by slot, and those past
-- the end are 0
abbrev pub writes_at : WriteCounts → ℕ → ℕ → ℕ
writes_at writes k t = slice_index writes.counts.items (t * writes.nodes + k)

-- one write more of a node's host in a slot is counted
pub record CountsMore (old new : WriteCounts) (node slot : ℕ) : Type 0 where
  pub nodes : new.nodes ≡ old.nodes
  pub counts : (k t : ℕ) → k < old.nodes
      → writes_at new k t ≡ writes_at old k t + (if (node == k) && (slot == t) then 1 else 0)

-- What lines state.

-- the lines so far state this, the newest first
pub record LinesStandFor (so_far : SoFar) (before : List Statement) : Type 0 where
  pub slots : so_far.slots ≡ slots_of before
  pub on : (k : ℕ) → slice_index_or so_far.on.items k None ≡ on_of before k
  pub drift : (k : ℕ) → slice_index_or so_far.drift.items k None ≡ drift_stated before k
  pub events : so_far.events ≡ events_of before
  pub writes : (k t : ℕ) → k < so_far.writes.nodes → writes_at so_far.writes k t ≡ count_by (is_write_at k t) before

-- something is kept of each node of a list
pub record HasNodes (list : Medl) (so_far : SoFar) : Type 0 where
  pub on : vec_len so_far.on ≡ length list.slots
  pub drift : vec_len so_far.drift ≡ length list.slots
  pub writes : so_far.writes.nodes ≡ length list.slots

-- Forms of lines.

-- a line of this form says what happens in slots
abbrev pub is_event_form : Keyword → Bool
is_event_form keyword.Slots = false
is_event_form keyword.On = false
is_event_form keyword.Drift = false
is_event_form form = true

-- and lines of it are not counted, as those of writes are
abbrev pub is_uncounted : Keyword → Bool
is_uncounted keyword.Write = false
is_uncounted form = is_event_form form

-- What becomes of a line.

-- a line of a form that says what happens in slots was read, in a run of so many: it has no fault of its own and states
-- this event, or this is its first fault
abbrev pub ReadsEvent : Medl → ℕ → List (List ℕ) → Keyword → Result Event LineFault → Type 0
ReadsEvent list slots words form (Ok e) =
    (statement_faults list slots words form ≡ []) × (statement_of form words ≡ says_event e)
ReadsEvent list slots words form (Err fault) = first_fault (statement_faults list slots words form) ≡ Some fault

-- what a line of a form states was taken: it has no fault, whatever lines are kept, and is kept beside them
pub record TakesStated (list : Medl) (words : List (List ℕ)) (old new : SoFar) (form : Keyword) : Type 0 where
  pub faults : (before : List Statement) → LinesStandFor old before → stated_faults list before words form ≡ []
  pub after : (before : List Statement) → LinesStandFor old before
      → LinesStandFor new (statement_of form words ∷ before)

-- this is the first fault of what it states, whatever lines are kept; or memory was refused
abbrev pub RefusesStated : Medl → List (List ℕ) → SoFar → Keyword → Refusal → Type 0
RefusesStated list words so_far form (refusals.Fault fault) =
    (before : List Statement) → LinesStandFor so_far before
    → first_fault (stated_faults list before words form) ≡ Some fault
RefusesStated list words so_far form refusals.Memory = Unit {0}

-- a line of a form was taken
pub record TakesForm (list : Medl) (words : List (List ℕ)) (old new : SoFar) (form : Keyword) : Type 0 where
  pub faults : (before : List Statement) → LinesStandFor old before → form_faults list before words form ≡ []
  pub after : (before : List Statement) → LinesStandFor old before
      → LinesStandFor new (statement_of form words ∷ before)

-- this is its first fault, or memory was refused
abbrev pub RefusesForm : Medl → List (List ℕ) → SoFar → Keyword → Refusal → Type 0
RefusesForm list words so_far form (refusals.Fault fault) =
    (before : List Statement) → LinesStandFor so_far before
    → first_fault (form_faults list before words form) ≡ Some fault
RefusesForm list words so_far form refusals.Memory = Unit {0}

-- a whole line has no fault, and what it says was taken
pub record TakesLine (list : Medl) (words : List (List ℕ)) (old new : SoFar) : Type 0 where
  pub faults : (before : List Statement) → LinesStandFor old before → line_faults list before words ≡ []
  pub after : (before : List Statement) → LinesStandFor old before → LinesStandFor new (statements_after before words)

-- this is the first fault of a whole line, whatever lines are kept; or memory was refused
abbrev pub RefusesLine : Medl → List (List ℕ) → SoFar → Refusal → Type 0
RefusesLine list words so_far (refusals.Fault fault) =
    (before : List Statement) → LinesStandFor so_far before
    → first_fault (line_faults list before words) ≡ Some fault
RefusesLine list words so_far refusals.Memory = Unit {0}

-- why a script is refused whose line of this number is not taken
abbrev pub error_at : ℕ → Refusal → ScriptError
error_at number (refusals.Fault fault) = errors.Line number fault
error_at number refusals.Memory = errors.Memory
