-- What a script file means for a list: the script, or the first faulty line with its first fault.
--
-- The faults of a file are one list, over all its lines: those of each line in order, and at last the want of a
-- `slots` line, which is told of the line after the last. A file with no fault is the script of what its lines state.
use Rattle.std.specs.Prelude.{ℕ, suc, pos, List, [], ◌∷◌, ◌++◌, length}
use Rattle.std.specs.Prelude.{map, unwrap_or, is_some, Result, Ok, Err, if◌then◌else◌}
use Rattle.ttp_base.specs.NodeSet.{below}
use Rattle.ttp_world.specs.declared.medl.Medl.{Medl}
use Rattle.ttp_world.specs.declared.script.Script.{Script}
use Rattle.script_text.specs.declared.error.LineFault.{LineFault}
use Rattle.script_text.specs.declared.error.LineFault.TheVariants as faults
use Rattle.script_text.specs.declared.error.ScriptError.{ScriptError}
use Rattle.script_text.specs.declared.error.ScriptError.TheVariants as errors
use Rattle.script_text.specs.Lines.{lines_of_file, words_of_line}
use Rattle.script_text.specs.Statement.{Statement}
use Rattle.script_text.specs.Faults.{slots_of, stated_slots, on_of, drift_stated, events_of, line_faults}
use Rattle.script_text.specs.Faults.{statements_after}

-- The faults of all lines.

-- faults of the line of this number
abbrev pub errors_at : ℕ → List LineFault → List ScriptError
errors_at number found = map (λ fault. errors.Line number fault) found

-- the want of a `slots` line, after all lines before this number
abbrev pub end_faults : ℕ → List Statement → List ScriptError
end_faults number before = if is_some (slots_of before) then [] else errors.Line number faults.NoSlots ∷ []

-- the faults of the lines from this number on, after lines that state this
abbrev pub script_faults : Medl → ℕ → List Statement → List (List ℕ) → List ScriptError
script_faults list number before [] = end_faults number before
script_faults list number before (line ∷ lines) =
    let words = words_of_line line in
    errors_at number (line_faults list before words)
    ++ script_faults list (suc number) (statements_after before words) lines

-- What lines without a fault say.

-- what all lines state, the newest first, after lines that state this
abbrev pub statements_of : List Statement → List (List ℕ) → List Statement
statements_of before [] = before
statements_of before (line ∷ lines) = statements_of (statements_after before (words_of_line line)) lines

-- the script of what all lines state
unfoldable pub stated_script : Medl → List Statement → Script
stated_script list said = record {
  slots = stated_slots said;
  on = map (λ k. on_of said k) (below (length list.slots));
  drift = map (λ k. unwrap_or (drift_stated said k) (pos 0)) (below (length list.slots));
  events = events_of said;
}

-- The whole file.

-- the script, where nothing is wrong, and else the first fault
abbrev pub script_or_fault : List ScriptError → Script → Result Script ScriptError
script_or_fault [] script = Ok script
script_or_fault (fault ∷ found) script = Err fault

-- what lines say
unfoldable pub lines_script : Medl → List (List ℕ) → Result Script ScriptError
lines_script list lines = script_or_fault (script_faults list 1 [] lines) (stated_script list (statements_of [] lines))

-- what the bytes of a file say: the script, or the first faulty line with its first fault
unfoldable pub script_of : Medl → List ℕ → Result Script ScriptError
script_of list bytes = lines_script list (lines_of_file bytes)
