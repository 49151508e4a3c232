-- The first of the things that are wrong with a list file.
use Rattle.std.specs.Prelude.{◌≡◌, ◌⊎◌, List, Some}
use Rattle.ttp_base.specs.Faults.{first_fault}
use Rattle.medl_text.specs.declared.error.MedlError.{MedlError}
use Rattle.medl_text.specs.declared.error.MedlError.TheVariants as errors

-- e is the first fault, or memory was refused
abbrev pub IsFirst : MedlError → List MedlError → Type 0
IsFirst e faults = (e ≡ errors.Memory) ⊎ (first_fault faults ≡ Some e)
