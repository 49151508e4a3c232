-- What is found stands for what is told.
use Rattle.std.specs.Prelude.{◌≡◌, [], Option, Some, None}
use Rattle.ttp_base.specs.Text.{Lines}
use Rattle.check_text.specs.declared.found.Beside.{Beside}
use Rattle.check_text.specs.declared.found.Found.{Found}
use Rattle.check_text.specs.declared.script_side.ScriptSide.{ScriptSide}
use Rattle.check_text.specs.Check.{Named, Checked, check_found}
use Rattle.check_text.specs.Sides.{list_side_lines, script_side_lines, asked_answer}

-- the lines on a script that is looked at, if one is
abbrev pub side_lines : Option Named → Option ScriptSide → Lines
side_lines None side = []
side_lines (Some file) None = []
side_lines (Some file) (Some side) = script_side_lines file.name file.text side

-- what is found beside a list
pub record IsFoundBeside (c : Checked) (file : Option Named) (beside : Beside) : Type 0 where
  pub lines : side_lines file beside.script ≡ c.script
  pub warnings : beside.rules.lines ≡ c.warnings
  pub answer : asked_answer beside.rules.answer ≡ c.answer

-- what is found in a list, and in a script beside it
pub record IsAllFound (file : Named) (script : Option Named) (found : Found) : Type 0 where
  pub list : list_side_lines file.name found.list ≡ (check_found file script).list
  pub beside : IsFoundBeside (check_found file script) script found.beside
