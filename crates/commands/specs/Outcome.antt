-- How a part of a call ended, and how a call ended that follows a plan.
use Rattle.std.specs.Prelude.{◌≡◌, ◌⊎◌, ℕ, List, None}
use Rattle.ttp_base.specs.Outside.{Gives, Files, AskedFor, HasRisen, NoneRose, NoneFell, HoldsTheSame, Output}
use Rattle.commands.specs.Plan.{Outside, outside, Ending, File, Plan, ends, asks, unloaded}
use Rattle.commands.specs.Texts.{Program, Texts, no_texts, IsKeptBeside, WroteAmong, CutAmong, Answer}

-- this ending was shown: its status was answered, one of its texts was written, a piece a line, and what belongs to
-- that text was kept
pub record Showed (p : Program) (ending : Ending p.Sets) (before now : Output) (answer : Answer p.Kept) : Type 0 where
  pub status : answer.status ≡ ending.status
  pub text : WroteAmong p ending.texts before now
  pub kept : IsKeptBeside p ending.texts text.lines answer.kept

-- a fault of the sink cut one of its texts short, which is status 6
pub record Stopped (p : Program) (ending : Ending p.Sets) (before now : Output) (answer : Answer p.Kept) : Type 0 where
  pub status : answer.status ≡ 6
  pub text : CutAmong p ending.texts before now
  pub none : answer.kept ≡ None

-- memory was refused when one of these texts was written, which is status 7
pub record Refused (p : Program) (unfinished : Texts p.Sets) (before now : Output) (answer : Answer p.Kept) : Type 0
  where
    pub status : answer.status ≡ 7
    pub text : WroteAmong p unfinished before now
    pub none : answer.kept ≡ None

-- a command ended so, or a fault of the sink cut its text short
abbrev pub Says : (p : Program) → Ending p.Sets → Output → Output → Answer p.Kept → Type 0
Says p ending before now answer = Showed p ending before now answer ⊎ Stopped p ending before now answer

-- a command ended so, or a fault of the sink or a refusal of memory cut its text short
abbrev pub ShowsEnding : (p : Program) → Ending p.Sets → Output → Output → Answer p.Kept → Type 0
ShowsEnding p ending before now answer = Says p ending before now answer ⊎ Refused p ending.unfinished before now answer

-- a file was asked for, once, and its library has no fault to tell; or it has one
pub record Asked (file : File) (before now : Files) : Type 0 where
  pub load : AskedFor before now file.name file.limit
  pub quiet : NoneRose before now
  pub keeps : HoldsTheSame before now

-- a file was asked for, and the count of its name rose
pub record Failed (file : File) (before now : Files) : Type 0 where
  pub load : AskedFor before now file.name file.limit
  pub risen : HasRisen (before.faults file.name) (now.faults file.name)
  pub count : NoneFell before now
  pub keeps : HoldsTheSame before now

-- A call followed a plan. It asked for each file in its turn, and went on by the bytes that it was given, or said that
-- the file could not be loaded, or wanted memory; and it showed the ending that it came to.
abbrev pub Follows : (p : Program) → Plan p.Sets → Outside → Outside → Answer p.Kept → Type 0
Follows p (ends ending) before now answer =
    (now.files ≡ before.files) × ShowsEnding p ending before.output now.output answer
Follows p (asks file next) before now answer =
    ((bytes : List ℕ) × ((files : Files) × (Asked file before.files files
    × Gives (before.files.held file.name) file.limit bytes
    × Follows p (next bytes) (outside files before.output) now answer)))
    ⊎ ((Failed file before.files now.files × Says p (unloaded file) before.output now.output answer)
    ⊎ (Asked file before.files now.files × Refused p no_texts before.output now.output answer))
