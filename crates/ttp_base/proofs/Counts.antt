-- What an added file leaves of the counts of a library in memory.
use Rattle.std.proofs.Common.{◌≡◌, ℕ, List, Bool, true, false, Option, Some, None, refl, ap, ◌∙◌, sym}
use Rattle.std.proofs.lemmas.Slice.Eq.{bytes_eq-Decides}
use Rattle.std.specs.Map.{update}
use Rattle.std.specs.Prelude.{cond}
use Rattle.std.specs.Str.{bytes_eq}
use Rattle.ttp_base.specs.declared.memory_library.Kept.{Kept}
use Rattle.ttp_base.specs.MemoryLibrary.{first_count, told_count}

-- a name keeps its count where the bytes under it are exchanged, or are the first ones
at_name : (never : Bool) (faults : ℕ) (before : Option Kept) (kept : Kept) → kept.faults ≡ first_count faults before
    → told_count never faults (Some kept) ≡ told_count never faults before
at_name false faults before kept same = refl
at_name true faults None kept same = same
at_name true faults (Some file) kept same = same

at_each : (never : Bool) (faults : ℕ) (before : List ℕ → Option Kept) (name : List ℕ) (kept : Kept) (other : List ℕ)
    → kept.faults ≡ first_count faults (before name) → (is : Bool) → bytes_eq name other ≡ is
    → told_count never faults (cond is (Some kept) (before other)) ≡ told_count never faults (before other)
at_each never faults before name kept other same false differs = refl
at_each never faults before name kept other same true equal =
    at_name never faults (before name) kept same
    ∙ ap (λ (n : List ℕ). told_count never faults (before n)) ((bytes_eq-Decides name other).0 equal)

-- so does each other name
pub same_counts : (never : Bool) (faults : ℕ) (before : List ℕ → Option Kept)
    (name : List ℕ) (kept : Kept) (other : List ℕ)
    → kept.faults ≡ first_count faults (before name)
    → told_count never faults (update bytes_eq before name (Some kept) other) ≡ told_count never faults (before other)
same_counts never faults before name kept other same =
    at_each never faults before name kept other same (bytes_eq name other) refl
