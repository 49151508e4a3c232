-- The lines on what was found.
use Rattle.std.specs.Prelude.{ℕ, List, [], ◌∷◌, map, Option, Some, None}
use Rattle.ttp_base.specs.Text.{Lines}
use Rattle.script_text.specs.Lines.{lines_of_file}
use Rattle.broken_rules.specs.declared.rules.Answer.{Answer}
use Rattle.check_text.specs.declared.list_side.ListSide.{ListSide}
use Rattle.check_text.specs.declared.script_side.ScriptSide.{ScriptSide}
use Rattle.check_text.specs.declared.script_side.ScriptSide.TheVariants as side
use Rattle.check_text.specs.Lines.{list_fault_lines_at, script_line, too_large_line}
use Rattle.check_text.specs.Check.{no_answer, test_line}

-- in a list of this name
abbrev pub list_side_lines : List ℕ → ListSide → Lines
list_side_lines name s = list_fault_lines_at name s.measures.rounds s.measures.modes s.stop s.wrongs s.places

-- in a script of this name and these bytes
abbrev pub script_side_lines : List ℕ → List ℕ → ScriptSide → Lines
script_side_lines name text side.TooLarge = too_large_line name ∷ []
script_side_lines name text (side.Errors errors) = map (script_line name (lines_of_file text)) errors

-- the answer of the test, if it is asked
abbrev pub asked_answer : Option Answer → List ℕ
asked_answer None = no_answer
asked_answer (Some a) = test_line a
