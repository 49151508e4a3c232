-- What `check` writes of a list, or of a list and a script.
use Rattle.std.specs.Prelude.{ℕ, ◌+◌, List, [], ◌∷◌, ◌++◌, length, codes, Option, Some, None, Result, Ok, Err}
use Rattle.ttp_base.specs.Text.{Lines}
use Rattle.ttp_world.specs.declared.medl.Medl.{Medl}
use Rattle.ttp_world.specs.declared.script.Script.{Script}
use Rattle.ttp_world.specs.Returning.{has_arm}
use Rattle.ttp_world.specs.Trace.{keep_line, back_line}
use Rattle.commands.specs.Read.{list_from, script_from}
use Rattle.broken_rules.specs.declared.rules.Answer.{Answer}
use Rattle.broken_rules.specs.declared.rules.Answer.TheVariants as answer
use Rattle.broken_rules.specs.Clocks.{narrow_window}
use Rattle.broken_rules.specs.Rules.{broken_rules}
use Rattle.check_text.specs.declared.named.Named.{Named as TheNamed}
use Rattle.check_words.specs.Lines.{last_line}
use Rattle.warning_words.specs.SaidLines.{event_lines, stating_lines}
use Rattle.warning_words.specs.Warnings.{RightFiles, line_if, warning_lines, window_alone}
use Rattle.check_text.specs.Page.{pieces_of}
use Rattle.check_text.specs.Lines.{list_fault_lines, script_fault_lines, window_place, slots_place}

-- a file: its name and its bytes
pub record Named : Type 0 where
  pub name : List ℕ
  pub text : List ℕ

-- What is told of files: what is wrong with each, which rules are not kept, and the line that the test answers.
pub record Checked : Type 0 where
  pub list : Lines
  pub script : Lines
  pub warnings : Lines
  pub answer : List ℕ

-- what the test answers where it is not asked
abbrev pub no_answer : List ℕ
no_answer = codes "keeps -\n"

-- what it answers
abbrev pub test_line : Answer → List ℕ
test_line (answer.Keeps keep) = keep_line keep
test_line (answer.Returns back) = back_line back

-- a value that is read, if it is
abbrev pub read_value : {X F : Type 0} → Result X F → Option X
read_value (Ok x) = Some x
read_value (Err fault) = None

-- a right list and a right script, and where their parts stand
abbrev pub files_with : Named → Named → Medl → Script → RightFiles
files_with list_file script_file list script = record {
  list = list;
  script = script;
  armed = has_arm script;
  list_name = list_file.name;
  script_name = script_file.name;
  window = window_place list_file.text;
  slot = slots_place list_file.text;
  events = event_lines script_file.text;
  others = stating_lines script_file.text;
}

-- of a right list alone
abbrev pub alone_checked : Named → Medl → Checked
alone_checked file list = record {
  list = [];
  script = [];
  warnings = line_if (window_alone list file.name (window_place file.text)) (narrow_window list);
  answer = no_answer;
}

-- of a right list and a script: the rules, where the script is right
abbrev pub both_checked : Named → Named → Medl → Option Script → Checked
both_checked list_file script_file list None = record {
  list = [];
  script = script_fault_lines (Some list) script_file.name script_file.text;
  warnings = [];
  answer = no_answer;
}
both_checked list_file script_file list (Some script) = record {
  list = [];
  script = [];
  warnings = warning_lines (files_with list_file script_file list script) (broken_rules list script);
  answer = test_line (broken_rules list script).answer;
}

-- the faults of a script, where one is looked at
abbrev pub lines_beside : Option Named → Lines
lines_beside None = []
lines_beside (Some file) = script_fault_lines None file.name file.text

-- of a right list, or of a list that is none
abbrev pub checked_by : Named → Option Named → Option Medl → Checked
checked_by file script None = record {
  list = list_fault_lines file.name file.text;
  script = lines_beside script;
  warnings = [];
  answer = no_answer;
}
checked_by file None (Some list) = alone_checked file list
checked_by file (Some script) (Some list) =
    both_checked file script list (read_value (script_from list script.text))

-- what is told of a list, and of a script beside it
unfoldable pub check_found : Named → Option Named → Checked
check_found file script = checked_by file script (read_value (list_from file.text))

-- The text and the status.

-- the last line counts those above it
abbrev pub lines_with_last : Checked → Lines
lines_with_last c =
    c.list ++ (c.script ++ (c.warnings
    ++ last_line (length c.list + length c.script) (length c.warnings) c.answer ∷ []))

-- all of them, in pieces
abbrev pub check_lines : Named → Option Named → Lines
check_lines file script = pieces_of (lines_with_last (check_found file script))

-- a list with an error is 3, a script with one is 4, and a warning is 1
abbrev pub status_by_warnings : Lines → ℕ
status_by_warnings [] = 0
status_by_warnings (w ∷ ws) = 1

abbrev pub status_by_script : Lines → Lines → ℕ
status_by_script [] warnings = status_by_warnings warnings
status_by_script (e ∷ es) warnings = 4

abbrev pub status_by_list : Lines → Lines → Lines → ℕ
status_by_list [] script warnings = status_by_script script warnings
status_by_list (e ∷ es) script warnings = 3

abbrev pub status_of : Checked → ℕ
status_of c = status_by_list c.list c.script c.warnings

abbrev pub check_status : Named → Option Named → ℕ
check_status file script = status_of (check_found file script)

-- the files of a call
abbrev pub named_by : TheNamed → Named
named_by file = record { name = file.name.now; text = file.text.now }
