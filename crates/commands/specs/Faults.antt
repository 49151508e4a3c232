-- The lines that refuse a file.
use Rattle.std.specs.Prelude.{ℕ, List, [], ◌++◌, codes, decimal, Option, Some, None}
use Rattle.std.specs.Fmt.{signed_decimal}
use Rattle.ttp_base.specs.Text.{newline}
use Rattle.medl_text.specs.declared.error.Field.{Field}
use Rattle.medl_text.specs.declared.error.MedlError.{MedlError}
use Rattle.medl_text.specs.declared.error.MedlError.TheVariants as errors
use Rattle.medl_text.specs.ListFile.{key_text}
use Rattle.script_text.specs.declared.error.LineFault.{LineFault}
use Rattle.script_text.specs.declared.error.LineFault.TheVariants as faults
use Rattle.script_text.specs.declared.error.ScriptError.{ScriptError}
use Rattle.script_text.specs.declared.error.ScriptError.TheVariants as script_errors
use Rattle.commands.specs.declared.read.FileFault.{FileFault}
use Rattle.commands.specs.declared.read.FileFault.TheVariants as wrong

-- where a field stands
abbrev pub place_text : Option ℕ → List ℕ
place_text None = []
place_text (Some k) = codes "slot " ++ (decimal k ++ codes " ")

abbrev pub field_text : Field → List ℕ
field_text field = place_text field.slot ++ key_text field.name

-- a key that no list has
abbrev pub unknown_text : Option ℕ → List ℕ
unknown_text None = codes "unknown key at top"
unknown_text (Some k) = codes "unknown key in slot " ++ decimal k

-- what is wrong with a list
abbrev pub list_fault_text : MedlError → List ℕ
list_fault_text errors.NotToml = codes "not toml"
list_fault_text (errors.Missing field) = codes "missing " ++ field_text field
list_fault_text (errors.WrongKind field) = codes "wrong kind " ++ field_text field
list_fault_text (errors.OutOfRange field value) =
    codes "out of range " ++ (field_text field ++ (codes " " ++ signed_decimal value))
list_fault_text (errors.SlotCount found) = codes "slot count " ++ decimal found
list_fault_text (errors.Kinds k) = codes "kinds of slot " ++ decimal k
list_fault_text (errors.Unknown slot) = unknown_text slot
list_fault_text (errors.NoSync found) = codes "sync slots " ++ decimal found
list_fault_text (errors.NoRequestData k) = codes "no data for requests of slot " ++ decimal k
list_fault_text (errors.Live k) = codes "live of slot " ++ decimal k
list_fault_text (errors.NotBuilt field) = codes "not built " ++ field_text field
list_fault_text errors.Memory = []

-- what is wrong with a line of a script
abbrev pub line_fault_text : LineFault → List ℕ
line_fault_text faults.Word = codes "word"
line_fault_text faults.NoSlots = codes "no slots"
line_fault_text faults.NotBuilt = codes "not built"
line_fault_text faults.Number = codes "number"
line_fault_text faults.NoNode = codes "no node"
line_fault_text faults.NoData = codes "no data"
line_fault_text faults.Range = codes "range"
line_fault_text faults.Repeat = codes "repeat"
line_fault_text faults.NoBuffer = codes "no buffer"
line_fault_text faults.TooMany = codes "too many"

-- what is wrong with a script
abbrev pub script_fault_text : ScriptError → List ℕ
script_fault_text (script_errors.Line number fault) =
    codes "line " ++ (decimal number ++ (codes " " ++ line_fault_text fault))
script_fault_text script_errors.Memory = []

-- what is wrong with a file
abbrev pub fault_text : FileFault → List ℕ
fault_text wrong.TooLarge = codes "too large"
fault_text (wrong.List fault) = list_fault_text fault
fault_text (wrong.Script fault) = script_fault_text fault

-- the line that says so, behind the word for the file
unfoldable pub file_fault_line : List ℕ → FileFault → List ℕ
file_fault_line file fault = file ++ (codes ": " ++ (fault_text fault ++ newline))
