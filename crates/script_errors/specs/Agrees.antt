-- What the errors of a script say of the answer of the reader of scripts.
use Rattle.std.specs.Prelude.{◌≡◌, ℕ, ◌≤◌, ◌⊎◌, List, [], ◌∷◌, Result, Ok, Err}
use Rattle.std.specs.List.{AllByRecursion}
use Rattle.ttp_world.specs.declared.script.Script.{Script}
use Rattle.script_text.specs.declared.error.LineFault.{LineFault}
use Rattle.script_text.specs.declared.error.LineFault.TheVariants as faults
use Rattle.script_text.specs.declared.error.ScriptError.{ScriptError as Refused}
use Rattle.script_text.specs.declared.error.ScriptError.TheVariants as refused
use Rattle.script_errors.specs.declared.error.Wrong.{Wrong}
use Rattle.script_errors.specs.declared.error.Wrong.TheVariants as wrong
use Rattle.script_errors.specs.declared.error.ScriptError.{ScriptError}

-- the reader's word for what is wrong
abbrev pub reader_fault : Wrong → LineFault
reader_fault wrong.Mark = faults.Word
reader_fault wrong.Utf16 = faults.Word
reader_fault wrong.IsList = faults.Word
reader_fault wrong.NoForm = faults.Word
reader_fault wrong.NoSlots = faults.NoSlots
reader_fault wrong.NothingSaid = faults.NoSlots
reader_fault wrong.Comment = faults.Word
reader_fault (wrong.WordCount words form) = faults.Word
reader_fault (wrong.Misspelt part) = faults.Word
reader_fault (wrong.NoNumber part low high) = faults.Number
reader_fault (wrong.OutOfRange part value low high) = faults.Range
reader_fault (wrong.NoNode part node high) = faults.NoNode
reader_fault (wrong.NoData part node) = faults.NoData
reader_fault (wrong.NoSource high) = faults.Number
reader_fault (wrong.ReadsItself node) = faults.Range
reader_fault wrong.NoDigits = faults.Number
reader_fault (wrong.DigitCount digits due node) = faults.Range
reader_fault (wrong.Backwards from to) = faults.Range
reader_fault (wrong.SlotsAgain line) = faults.Repeat
reader_fault (wrong.OnAgain node line) = faults.Repeat
reader_fault (wrong.DriftAgain node line) = faults.Repeat
reader_fault wrong.NoBuffer = faults.NoBuffer
reader_fault (wrong.TooMany node slot most) = faults.TooMany

-- one of some errors is of this line and says this fault
abbrev pub TellsFault : ℕ → LineFault → List ScriptError → Type 0
TellsFault number fault [] = ⊥
TellsFault number fault (e ∷ es) = ((e.line ≡ number) × (reader_fault e.wrong ≡ fault)) ⊎ TellsFault number fault es

-- and none is of a line before
pub record TellsFirst (number : ℕ) (fault : LineFault) (found : List ScriptError) : Type 0 where
  pub none_before : AllByRecursion (λ e. number ≤ e.line) found
  pub tells : TellsFault number fault found

-- nothing is wrong where the reader takes a script, and else its first fault is told, of the first line with an error
abbrev pub Agrees : List ScriptError → Result Script Refused → Type 0
Agrees found (Ok script) = found ≡ []
Agrees found (Err (refused.Line number fault)) = TellsFirst number fault found
Agrees found (Err refused.Memory) = ⊥
