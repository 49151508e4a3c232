-- What the errors of a list say of the answer of the reader of lists.
use Rattle.std.specs.Prelude.{◌≡◌, List, [], map, Result, Ok, Err, Some}
use Rattle.ttp_base.specs.Faults.{first_fault}
use Rattle.ttp_world.specs.declared.medl.Medl.{Medl}
use Rattle.medl_text.specs.declared.error.MedlError.{MedlError}
use Rattle.medl_text.specs.declared.error.MedlError.TheVariants as faults
use Rattle.list_errors.specs.declared.error.Wrong.{Wrong}
use Rattle.list_errors.specs.declared.error.Wrong.TheVariants as wrong

-- The reader's word for what is wrong. It takes a file of any size, and so has none for one that is too large; of such
-- a file nothing is asked here.
abbrev pub list_fault : Wrong → MedlError
list_fault wrong.TooLarge = faults.NotToml
list_fault wrong.Utf16 = faults.NotToml
list_fault (wrong.IsScript at) = faults.NotToml
list_fault (wrong.NotUtf8 at byte) = faults.NotToml
list_fault wrong.NotToml = faults.NotToml
list_fault (wrong.Missing field) = faults.Missing field
list_fault (wrong.WrongKind field found) = faults.WrongKind field
list_fault (wrong.OutOfRange field value low high) = faults.OutOfRange field value
list_fault (wrong.SlotCount found) = faults.SlotCount found
list_fault (wrong.Kinds slot letters) = faults.Kinds slot
list_fault (wrong.NoRequestData slot) = faults.NoRequestData slot
list_fault (wrong.Live slot letters) = faults.Live slot
list_fault (wrong.Unknown slot key) = faults.Unknown slot
list_fault (wrong.NoSync found) = faults.NoSync found

-- nothing is wrong where the reader takes a list, and else its fault is what is wrong first
abbrev pub ListAgrees : List Wrong → Result Medl MedlError → Type 0
ListAgrees found (Ok list) = found ≡ []
ListAgrees found (Err fault) = first_fault (map list_fault found) ≡ Some fault
