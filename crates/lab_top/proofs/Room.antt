-- A script that a file holds has room for one event more: the line that says the run's slots says nothing else, and
-- takes bytes as well.
use Rattle.std.proofs.Common.{◌≡◌, ◌⊎◌, ℕ, ◌+◌, ◌*◌, ◌<◌, ◌≤◌, Bool, true, false, List, [], ◌∷◌, ◌++◌, length, Option}
use Rattle.std.proofs.Common.{Some, None, Ok, refl, ap, subst, suc, arith, append-nil, inl, inr}
use Rattle.std.specs.Prelude.{is_some, if◌then◌else◌}
use Rattle.std.proofs.lemmas.Grind.{common_steps}
use Rattle.ttp_world.specs.declared.medl.Medl.{Medl}
use Rattle.ttp_world.specs.declared.script.Script.{Script}
use Rattle.ttp_world.specs.declared.script.TheConstants.{EVENT_LIMIT}
use Rattle.ttp_world.specs.Medl.{IsValid}
use Rattle.lab_top.proofs.FromBelow.{medl_of-valid, line_right, with_end, size_of, size-lines_of, AreValid}
use Rattle.lab_top.proofs.FromBelow.{AreValid-none, right_list, right_script}
use Rattle.script_text.specs.declared.error.LineFault.{LineFault}
use Rattle.script_text.specs.declared.error.ScriptError.{ScriptError}
use Rattle.script_text.specs.Faults.{slots_of, events_of, line_faults, keyword_statements, statements_after}
use Rattle.script_text.specs.Lines.{lines_of_file, words_of_line, word_at, says_nothing}
use Rattle.script_text.specs.ScriptFile.{errors_at, script_faults, statements_of, stated_script}
use Rattle.script_text.specs.ScriptFile.{script_or_fault, lines_script, script_of}
use Rattle.script_text.specs.Statement.{Statement, says_slots, says_on, says_drift}
use Rattle.script_text.specs.Statement.{says_event, keyword_of, statement_of}
use Rattle.commands.specs.Files.{TookBoth}
use Rattle.commands.specs.Plan.{Outside}

-- the bytes that are still owed where no line has said the run's slots
abbrev owed : Option ℕ → ℕ
owed None = 2
owed (Some count) = 0

-- a line states nothing, or one thing, and then it has a byte

grown_by : (said : List Statement) (words : List (List ℕ)) (size : ℕ) (nothing : Bool) (form : Option _) → 1 ≤ size
    → ((if nothing then said else keyword_statements said words form) ≡ said)
    ⊎ ((statement : Statement)
    × (((if nothing then said else keyword_statements said words form) ≡ statement ∷ said) × (1 ≤ size)))
grown_by said words size true form bytes = inl refl
grown_by said words size false None bytes = inl refl
grown_by said words size false (Some form) bytes = inr (statement_of form words, (refl, bytes))

grown : (said : List Statement) (line : List ℕ)
    → (statements_after said (words_of_line line) ≡ said)
    ⊎ ((statement : Statement) × ((statements_after said (words_of_line line) ≡ statement ∷ said) × (1 ≤ length line)))
unfolding statements_after words_of_line
grown said [] = inl refl
grown said (b ∷ line) =
    let words = words_of_line (b ∷ line) in
    grown_by said words (length (b ∷ line)) (says_nothing words) (keyword_of (word_at words 0)) (omega arith)

-- it takes the bytes of its event, or of what was owed

first_room : (statement : Statement) (said : List Statement) (line : List ℕ) → slots_of said ≡ None → 1 ≤ length line
    → 8 * length (events_of (statement ∷ said)) ≤ 8 * length (events_of said) + with_end line
    → 8 * length (events_of (statement ∷ said)) + 2
    ≤ 8 * length (events_of said) + with_end line + owed (slots_of (statement ∷ said))
first_room (says_slots count) said line before bytes size =
    omega (arith, bytes, ap length (append-nil (events_of said)))
first_room (says_on node slot) said line before bytes size = rw before (omega (arith, size))
first_room (says_drift node value) said line before bytes size = rw before (omega (arith, size))
first_room (says_event e) said line before bytes size = rw before (omega (arith, size))

line_room : (list : Medl) (said : List Statement) (line : List ℕ) (slots : Option ℕ) → slots_of said ≡ slots
    → 8 * length (events_of (statements_after said (words_of_line line))) ≤ 8 * length (events_of said) + with_end line
    → 8 * length (events_of (statements_after said (words_of_line line))) + owed slots
    ≤ 8 * length (events_of said) + with_end line + owed (slots_of (statements_after said (words_of_line line)))
line_room list said line (Some count) before size = omega (arith, size)
line_room list said line None before size =
    elim (grown said line) [
      | inl same ↦ rw (same, before) (omega arith)
      | inr one ↦
          rw one.1.0 (first_room one.0 said line before one.1.1
          (subst (λ (after : List Statement). 8 * length (events_of after) ≤ 8
          * length (events_of said) + with_end line)
          one.1.0 size))
    ]

-- Two lists of faults that make an empty one are both empty.
from_none : {P : Type 0} (number : ℕ) (found : List LineFault) (more : List ScriptError)
    → errors_at number found ++ more ≡ [] → (found ≡ [] → more ≡ [] → P) → P
from_none number [] more none holds = holds refl none
from_none number (fault ∷ found) more none holds = absurd (cc)

no_debt : (slots : Option ℕ) → is_some slots ≡ true → owed slots ≡ 0
no_debt None is = absurd (cc)
no_debt (Some count) is = refl

lines_room : (list : Medl) (number : ℕ) (said : List Statement) (lines : List (List ℕ))
    → script_faults list number said lines ≡ [] → AreValid list said
    → 8 * length (events_of (statements_of said lines)) + owed (slots_of said)
    ≤ 8 * length (events_of said) + size_of lines
lines_room list number said [] none valid =
    let said_so : is_some (slots_of said) ≡ true = grind (arith, common_steps) in
    omega (arith, no_debt (slots_of said) said_so)
lines_room list number said (line ∷ lines) none valid =
    let words = words_of_line line in
    from_none number (line_faults list said words) _ none
    (λ line_none lines_none.
    let right = line_right list said line line_none valid in
    omega (
      arith,
      line_room list said line (slots_of said) refl right.size,
      lines_room list (suc number) (statements_after said words) lines lines_none right.valid,
    ))

-- where there is no fault, the script is the one that the lines state
of_lines : (found : List ScriptError) (script told : Script) → script_or_fault found told ≡ Ok script
    → (found ≡ [] → length told.events < EVENT_LIMIT) → length script.events < EVENT_LIMIT
of_lines [] script told is few =
    let same : told ≡ script = cc in
    subst (λ (s : Script). length s.events < EVENT_LIMIT) same (few refl)
of_lines (fault ∷ found) script told is few = absurd (cc)

pub script_of-room : (list : Medl) (text : List ℕ) (script : Script) → IsValid list → length text ≤ 1048576
    → script_of list text ≡ Ok script → length script.events < EVENT_LIMIT
unfolding script_of lines_script stated_script
script_of-room list text script valid size is =
    let lines = lines_of_file text in
    of_lines (script_faults list 1 [] lines) script (stated_script list (statements_of [] lines)) is
    (λ none. omega (arith, size, size-lines_of text, lines_room list 1 [] lines none (AreValid-none list valid)))

-- A script that was loaded has room for one event more.
pub room_of : (list script : List ℕ) (before now : Outside) (medl : Medl) (right : Script)
    → TookBoth list script before now medl right → length right.events < EVENT_LIMIT
room_of list script before now medl right took =
    let read = right_list took.first.bytes medl took.first.taken in
    let are = right_script took.first.bytes took.second.bytes medl right read took.second.taken in
    script_of-room medl took.second.bytes right
    (medl_of-valid took.first.bytes medl are.list) are.script_size are.script
