-- What a text is read as, and the line that refuses one that can't be shown.
use Rattle.std.specs.Prelude.{ℕ, nat_lt, List, ◌++◌, length, codes, decimal, Result, Ok, Err, if◌then◌else◌}
use Rattle.ttp_base.specs.Text.{newline}
use Rattle.commands.specs.Lines.{Notice, notice}
use Rattle.commands.specs.Read.{trace_limit}
use Rattle.lab_top.specs.declared.refusal.TextFault.{TextFault}
use Rattle.lab_top.specs.declared.refusal.TextFault.TheVariants as fault

-- The line.

-- what is wrong with a text
abbrev pub text_fault : TextFault → List ℕ
text_fault fault.TooLarge = codes "too large"
text_fault (fault.Line number) = codes "line " ++ decimal number
text_fault (fault.Slots last) = codes "slots 0 to " ++ decimal last
text_fault fault.NoSlot = codes "no slot to show"

-- the line that says why a text of this kind is not shown
unfoldable pub text_fault_line : List ℕ → TextFault → List ℕ
text_fault_line kind fault = kind ++ codes ": " ++ text_fault fault ++ newline

-- it is said with status 4
abbrev pub refused_text : List ℕ → TextFault → Notice
refused_text kind fault = notice 4 (text_fault_line kind fault)

-- What is read.

-- a line that is not due is a fault
abbrev pub value_read : {Value : Type 0} → Result Value ℕ → Result Value TextFault
value_read (Ok value) = Ok value
value_read (Err line) = Err (fault.Line line)

-- a text of more bytes than the limit is refused as too large, any other read
abbrev pub value_within : {Value : Type 0} → (List ℕ → Result Value ℕ) → ℕ → List ℕ → Result Value TextFault
value_within read limit text = if nat_lt limit (length text) then Err fault.TooLarge else value_read (read text)

-- the value that a text is read as, unless it is too large or none
unfoldable pub value_from : {Value : Type 0} → (List ℕ → Result Value ℕ) → List ℕ → Result Value TextFault
value_from read text = value_within read trace_limit text
