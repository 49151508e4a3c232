-- The promise of `check LIST [SCRIPT]` in its own words.
use Rattle.std.specs.Prelude.{◌≡◌, ◌⊎◌, ◌≤◌, ℕ, ◌+◌, List, [], take, Option, Some, None}
use Rattle.ttp_base.specs.Outside.{Gives, HasRisen, Wrote, WroteLines, CutShort}
use Rattle.fault_runs.specs.Ends.{WroteFewer}
use Rattle.check_text.specs.Check.{Named, check_lines, check_status}
use Rattle.check_text.specs.Laws.{AgreesWithReaders}
use Rattle.commands.specs.Plan.{Outside}
use Rattle.commands.specs.Read.{list_limit, script_limit}
use Rattle.lab_top.specs.ViewPromise.{HoldsText}

-- a file of this name was loaded, with these bytes
pub record GaveFile (name : List ℕ) (limit : ℕ) (before : Outside) (file : Named) : Type 0 where
  pub name_is : file.name ≡ name
  pub gives : Gives (before.files.held name) limit file.text

-- a script was loaded, where one is named, and none where none is
abbrev pub GaveBeside : Option (List ℕ) → Outside → Option Named → Type 0
GaveBeside None before None = Unit {0}
GaveBeside None before (Some file) = ⊥
GaveBeside (Some name) before None = ⊥
GaveBeside (Some name) before (Some file) = GaveFile name script_limit before file

-- Of the files that were loaded exactly the text was written, each line as one piece where no name has a line feed, and
-- the status is theirs. What is told agrees with the readers and with the test.
pub record WroteCheck (list : List ℕ) (script : Option (List ℕ)) (before now : Outside) (status : ℕ) : Type 0 where
  pub file : Named
  pub beside : Option Named
  pub list_file : GaveFile list list_limit before file
  pub script_file : GaveBeside script before beside
  pub answered : status ≡ check_status file beside
  pub agrees : AgreesWithReaders file beside
  pub wrote : WroteLines before.output now.output (check_lines file beside)

-- some of its first lines were written, or none, and never all
pub record BeganCheck (list : List ℕ) (script : Option (List ℕ)) (before now : Outside) : Type 0 where
  pub file : Named
  pub beside : Option Named
  pub list_file : GaveFile list list_limit before file
  pub script_file : GaveBeside script before beside
  pub wrote : WroteFewer before.output now.output (check_lines file beside)

-- a file of this name is told, and its count did not rise: its first bytes, one more than it may have
pub record HoldsFile (name : List ℕ) (limit : ℕ) (before now : Outside) (file : Named) : Type 0 where
  pub bytes : List ℕ
  pub holds_text : HoldsText name before now bytes
  pub is : file ≡ record { name = name; text = take (limit + 1) bytes }

abbrev pub HoldsBeside : Option (List ℕ) → Outside → Outside → Option Named → Type 0
HoldsBeside None before now None = Unit {0}
HoldsBeside None before now (Some file) = ⊥
HoldsBeside (Some name) before now None = ⊥
HoldsBeside (Some name) before now (Some file) = HoldsFile name script_limit before now file

-- a call that is asked for it promises
pub record CheckPromise (list : List ℕ) (script : Option (List ℕ)) (before now : Outside) (status : ℕ) : Type 0 where
  -- Status 0, 1, 3 and 4 say that exactly the text of both files was written, and the status is that of the files.
  pub told : status ≤ 4 → WroteCheck list script before now status
  -- Files that are held give their text and status, unless the sink failed or memory was refused: then some of its
  -- first lines stand, or none, and never all.
  pub complete : (file : Named) (beside : Option Named) → HoldsFile list list_limit before now file
      → HoldsBeside script before now beside → ¬ HasRisen before.output.faults now.output.faults
      → ((status ≡ check_status file beside) × WroteLines before.output now.output (check_lines file beside))
      ⊎ ((status ≡ 7) × WroteFewer before.output now.output (check_lines file beside))
  -- With status 6 it was cut short.
  pub cut : (file : Named) (beside : Option Named) → HoldsFile list list_limit before now file
      → HoldsBeside script before now beside → status ≡ 6
      → CutShort before.output now.output (check_lines file beside)
  -- With status 7 nothing was written, or some first lines of it, and never all.
  pub begun : status ≡ 7 → Wrote before.output now.output [] ⊎ BeganCheck list script before now
