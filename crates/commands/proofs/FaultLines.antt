-- What refuses a file is one line.
use Rattle.std.proofs.Common.{◌≡◌, ℕ, true, false, List, ◌++◌, Option, Some, None, refl}
use Rattle.std.specs.Prelude.{codes}
use Rattle.std.specs.Fmt.{decimal, signed_decimal}
use Rattle.ttp_base.specs.Text.{newline, is_line}
use Rattle.ttp_base.proofs.Lines.{is_line-append}
use Rattle.ttp_base.proofs.Numerals.{has, has-append, has-decimal, has-signed}
use Rattle.medl_text.specs.declared.error.Field.{Field}
use Rattle.medl_text.specs.declared.error.FieldName.{FieldName}
use Rattle.medl_text.specs.declared.error.FieldName.TheVariants as names
use Rattle.medl_text.specs.declared.error.MedlError.{MedlError}
use Rattle.medl_text.specs.declared.error.MedlError.TheVariants as errors
use Rattle.medl_text.specs.ListFile.{key_text}
use Rattle.script_text.specs.declared.error.LineFault.{LineFault}
use Rattle.script_text.specs.declared.error.LineFault.TheVariants as faults
use Rattle.script_text.specs.declared.error.ScriptError.{ScriptError}
use Rattle.script_text.specs.declared.error.ScriptError.TheVariants as script_errors
use Rattle.commands.specs.declared.read.FileFault.{FileFault}
use Rattle.commands.specs.declared.read.FileFault.TheVariants as wrong
use Rattle.commands.specs.Faults.{place_text, field_text, unknown_text, list_fault_text, line_fault_text}
use Rattle.commands.specs.Faults.{script_fault_text, fault_text, file_fault_line}
use Rattle.ttp_world.proofs.TraceLines.{feed_is_low as low}

key_lines : (name : FieldName) → has 10 (key_text name) ≡ false
key_lines names.Version = refl
key_lines name = refl

place_lines : (slot : Option ℕ) → has 10 (place_text slot) ≡ false
place_lines None = refl
place_lines (Some k) =
    has-append 10 (codes "slot ") (decimal k ++ codes " ") refl
    (has-append 10 (decimal k) (codes " ") (has-decimal 10 k low) refl)

field_lines : (field : Field) → has 10 (field_text field) ≡ false
field_lines field =
    has-append 10 (place_text field.slot) (key_text field.name) (place_lines field.slot) (key_lines field.name)

unknown_lines : (slot : Option ℕ) → has 10 (unknown_text slot) ≡ false
unknown_lines None = refl
unknown_lines (Some k) = has-append 10 (codes "unknown key in slot ") (decimal k) refl (has-decimal 10 k low)

list_lines : (fault : MedlError) → has 10 (list_fault_text fault) ≡ false
list_lines errors.NotToml = refl
list_lines (errors.Missing field) = has-append 10 (codes "missing ") (field_text field) refl (field_lines field)
list_lines (errors.WrongKind field) = has-append 10 (codes "wrong kind ") (field_text field) refl (field_lines field)
list_lines (errors.OutOfRange field value) =
    has-append 10 (codes "out of range ") (field_text field ++ (codes " " ++ signed_decimal value)) refl
    (has-append 10 (field_text field) (codes " " ++ signed_decimal value) (field_lines field)
    (has-append 10 (codes " ") (signed_decimal value) refl (has-signed 10 value low)))
list_lines (errors.SlotCount found) =
    has-append 10 (codes "slot count ") (decimal found) refl (has-decimal 10 found low)
list_lines (errors.Kinds k) = has-append 10 (codes "kinds of slot ") (decimal k) refl (has-decimal 10 k low)
list_lines (errors.Unknown slot) = unknown_lines slot
list_lines (errors.NoSync found) = has-append 10 (codes "sync slots ") (decimal found) refl (has-decimal 10 found low)
list_lines (errors.NoRequestData k) =
    has-append 10 (codes "no data for requests of slot ") (decimal k) refl (has-decimal 10 k low)
list_lines (errors.Live k) = has-append 10 (codes "live of slot ") (decimal k) refl (has-decimal 10 k low)
list_lines (errors.NotBuilt field) = has-append 10 (codes "not built ") (field_text field) refl (field_lines field)
list_lines errors.Memory = refl

line_lines : (fault : LineFault) → has 10 (line_fault_text fault) ≡ false
line_lines faults.Word = refl
line_lines fault = refl

script_lines : (fault : ScriptError) → has 10 (script_fault_text fault) ≡ false
script_lines (script_errors.Line number fault) =
    has-append 10 (codes "line ") (decimal number ++ (codes " " ++ line_fault_text fault)) refl
    (has-append 10 (decimal number) (codes " " ++ line_fault_text fault) (has-decimal 10 number low)
    (has-append 10 (codes " ") (line_fault_text fault) refl (line_lines fault)))
script_lines script_errors.Memory = refl

fault_lines : (fault : FileFault) → has 10 (fault_text fault) ≡ false
fault_lines wrong.TooLarge = refl
fault_lines (wrong.List fault) = list_lines fault
fault_lines (wrong.Script fault) = script_lines fault

pub fault_line-is_line : (file : List ℕ) (fault : FileFault) → has 10 file ≡ false
    → is_line (file_fault_line file fault) ≡ true
unfolding file_fault_line
fault_line-is_line file fault none =
    is_line-append file (codes ": " ++ (fault_text fault ++ newline)) none
    (is_line-append (codes ": ") (fault_text fault ++ newline) refl
    (is_line-append (fault_text fault) newline (fault_lines fault) refl))
