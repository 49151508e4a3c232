-- What a library in memory keeps.
use Rattle.std.specs.Prelude.{◌≡◌, ◌≢◌, ◌&&◌, if◌then◌else◌, Bool, true, false, ℕ, List, Option, Some, None}
use Rattle.std.specs.BTreeMap.{get_by_text}
use Rattle.ttp_base.specs.declared.memory_library.Kept.{Kept}
use Rattle.ttp_base.specs.declared.memory_library.MemoryLibrary.{MemoryLibrary}
use Rattle.ttp_base.specs.Outside.{Held, untold, absent, holds, never_fails, Files}

-- what is held under a name
abbrev pub held_in : Option Kept → Held
held_in None = absent
held_in (Some kept) = holds (kept.bytes).items

abbrev pub library_held : MemoryLibrary → List ℕ → Held
library_held library name = held_in (get_by_text library.files name)

-- the numbers of the calls that are to fail, and how many calls there were
abbrev pub library_fail : MemoryLibrary → List ℕ
library_fail library = library.fail

abbrev pub library_calls : MemoryLibrary → ℕ
library_calls library = library.calls

-- how many faults there were
abbrev pub library_faults : MemoryLibrary → ℕ
library_faults library = library.faults

-- whether something is known to be held
abbrev pub is_held : Held → Bool
is_held untold = false
is_held absent = false
is_held (holds bytes) = true

-- no call is to fail, and something is held under the name
abbrev pub library_sure : MemoryLibrary → List ℕ → Bool
library_sure library name = never_fails (library_fail library) && is_held (library_held library name)

-- the count of faults when a name was first held, or the one now where it is not held
abbrev pub first_count : ℕ → Option Kept → ℕ
first_count now None = now
first_count now (Some kept) = kept.faults

-- the count of a name: that of all faults, but for a name of which the library is sure that of the faults up to then
abbrev pub told_count : Bool → ℕ → Option Kept → ℕ
told_count never faults kept = if never && is_held (held_in kept) then first_count faults kept else faults

abbrev pub library_count : MemoryLibrary → List ℕ → ℕ
library_count library name =
    told_count (never_fails (library_fail library)) (library_faults library) (get_by_text library.files name)

-- what it tells of them
abbrev pub library_files : MemoryLibrary → Files
library_files library = record {
  held = library_held library;
  sure = library_sure library;
  faults = library_count library;
  all_faults = library_faults library;
  loads = (library.asked).loads;
}

-- nothing is held under any name
abbrev pub HoldsNothing : MemoryLibrary → Type 0
HoldsNothing library = (name : List ℕ) → library_held library name ≡ absent

-- these bytes are held under the name, and under each other name what was held before
pub record HoldsOneMore (old new : MemoryLibrary) (name bytes : List ℕ) : Type 0 where
  pub added : library_held new name ≡ holds bytes
  pub others : (other : List ℕ) → other ≢ name → library_held new other ≡ library_held old other

-- what is told beside the bytes is as before
pub record KeepsTheRest (old new : MemoryLibrary) : Type 0 where
  pub fail : library_fail new ≡ library_fail old
  pub calls : library_calls new ≡ library_calls old
  pub faults : library_faults new ≡ library_faults old
  pub loads : (library_files new).loads ≡ (library_files old).loads
