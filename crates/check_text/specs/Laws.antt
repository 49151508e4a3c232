-- What is told of files, beside the answers of the readers and of the test.
use Rattle.std.specs.Prelude.{◌≡◌, ◌⊎◌, ◌≤◌, ℕ, Bool, List, [], ◌∷◌, Option, Some, None, Ok, Err}
use Rattle.std.specs.List.{AllByRecursion}
use Rattle.ttp_base.specs.Text.{Lines}
use Rattle.ttp_world.specs.declared.medl.Medl.{Medl}
use Rattle.ttp_world.specs.declared.script.Script.{Script}
use Rattle.ttp_world.specs.Returning.{has_arm}
use Rattle.script_text.specs.declared.error.ScriptError.TheVariants as script_error
use Rattle.commands.specs.declared.read.FileFault.{FileFault}
use Rattle.commands.specs.declared.read.FileFault.TheVariants as refused
use Rattle.commands.specs.Faults.{line_fault_text, fault_text}
use Rattle.commands.specs.Read.{list_from, script_from}
use Rattle.check_words.specs.declared.lines.Place.{Place}
use Rattle.check_words.specs.Lines.{error_line}
use Rattle.broken_rules.specs.Rules.{RuleSlot, first_named, test_answer}
use Rattle.warning_words.specs.Warnings.{warning_at}
use Rattle.check_text.specs.Check.{Named, check_found, check_status, test_line}

-- a line on an error of a file of this name, in a line of the file
pub record IsErrorLine (name : List ℕ) (line : List ℕ) : Type 0 where
  pub place : Place
  pub fault : List ℕ
  pub said : List ℕ
  pub is : line ≡ error_line name place fault said

-- The list.

-- the first of some lines is on this fault
pub record TellsFaultFirst (name : List ℕ) (fault : List ℕ) (lines : Lines) : Type 0 where
  pub first : List ℕ
  pub rest : Lines
  pub lines_are : lines ≡ first ∷ rest
  pub error : IsErrorLine name first
  pub is : error.fault ≡ fault

-- The script.

-- it is in no line before this one
pub record IsFrom (name : List ℕ) (number : ℕ) (line : List ℕ) : Type 0 where
  pub error : IsErrorLine name line
  pub from : number ≤ error.place.line

-- one of some lines is on this fault in this line
abbrev pub TellsErrorOf : (name : List ℕ) (number : ℕ) (fault : List ℕ) (lines : Lines) → Type 0
TellsErrorOf name number fault [] = ⊥
TellsErrorOf name number fault (line ∷ lines) =
    ((error : IsErrorLine name line) × ((error.place.line ≡ number) × (error.fault ≡ fault)))
    ⊎ TellsErrorOf name number fault lines

-- where the reader names a line, it is the least with an error, and one of its errors is the fault that the reader
-- names
abbrev pub TellsRefusal : (name : List ℕ) (fault : FileFault) (lines : Lines) → Type 0
TellsRefusal name (refused.Script (script_error.Line number fault)) lines =
    TellsErrorOf name number (line_fault_text fault) lines × AllByRecursion (IsFrom name number) lines
TellsRefusal name fault lines = Unit {0}

-- The rules.

-- a line on a rule, with the slot that is named for it where it has one
pub record IsRuleLine (armed : Bool) (rule slot : ℕ) (line : List ℕ) : Type 0 where
  pub name : List ℕ
  pub place : Place
  pub at : Option ℕ
  pub said : List ℕ
  pub is : line ≡ warning_at name place armed rule at said
  pub named : (at ≡ None) ⊎ (at ≡ Some slot)

-- the first of some lines is on this rule
pub record TellsRule (armed : Bool) (r : RuleSlot) (lines : Lines) : Type 0 where
  pub first : List ℕ
  pub rest : Lines
  pub lines_are : lines ≡ first ∷ rest
  pub is : IsRuleLine armed r.rule r.slot first

-- What is told.

-- a list has an error exactly where the reader refuses it, and the first is called by the words that refuse the list
pub record ListTold (file : Named) (beside : Option Named) : Type 0 where
  pub right : (list : Medl) → list_from file.text ≡ Ok list → (check_found file beside).list ≡ []
  pub wrong : (fault : FileFault) → list_from file.text ≡ Err fault → check_status file beside ≡ 3
  pub first : (fault : FileFault) → list_from file.text ≡ Err fault
      → TellsFaultFirst file.name (fault_text fault) (check_found file beside).list

-- beside a right list a script has one exactly where the reader refuses it
pub record ScriptTold (file beside : Named) (list : Medl) : Type 0 where
  pub right : (script : Script) → script_from list beside.text ≡ Ok script
      → (check_found file (Some beside)).script ≡ []
  pub wrong : (fault : FileFault) → script_from list beside.text ≡ Err fault → check_status file (Some beside) ≡ 4
  pub tells : (fault : FileFault) → script_from list beside.text ≡ Err fault
      → TellsRefusal beside.name fault (check_found file (Some beside)).script

-- of a right list and a right script the last line has the answer of the test; nothing is told where it says yes, and
-- else the first line that is told is on the rule that it names
pub record TestTold (file beside : Named) (list : Medl) (script : Script) : Type 0 where
  pub answer : (check_found file (Some beside)).answer ≡ test_line (test_answer list script)
  pub kept : first_named (test_answer list script) ≡ None → check_status file (Some beside) ≡ 0
  pub broken : (r : RuleSlot) → first_named (test_answer list script) ≡ Some r
      → (check_status file (Some beside) ≡ 1) × TellsRule (has_arm script) r (check_found file (Some beside)).warnings

-- all of it
pub record AgreesWithReaders (file : Named) (beside : Option Named) : Type 0 where
  pub list : ListTold file beside
  pub script : (list : Medl) (other : Named) → beside ≡ Some other → list_from file.text ≡ Ok list
      → ScriptTold file other list
  pub test : (list : Medl) (script : Script) (other : Named) → beside ≡ Some other → list_from file.text ≡ Ok list
      → script_from list other.text ≡ Ok script → TestTold file other list script
