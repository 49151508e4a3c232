-- The promise of a call that follows a plan: sentences on what it asked for, how it ended and what it wrote, for every
-- program and each of its forms.
use Rattle.std.specs.Prelude.{◌≡◌, ◌⊎◌, ◌≤◌, ℕ, List, [], ◌∷◌, ◌++◌, Some, None}
use Rattle.ttp_base.specs.Outside.{Load, HasRisen, NoneRose, NoneFell, HoldsTheSame, Wrote}
use Rattle.commands.specs.Lines.{GaveLines}
use Rattle.commands.specs.Outcome.{Showed}
use Rattle.commands.specs.Plan.{Outside, Ending, File, Plan, ends, asks, load_of, unloaded, Comes, AsksFirst}
use Rattle.commands.specs.Plan.{told_ending}
use Rattle.commands.specs.Texts.{Program, WroteAmong, CutAmong, Answer}

-- an ending is due after these loads: each gave its bytes, and no count rose
pub record Reached {Sets : Type 0} (plan : Plan Sets) (before now : Outside) (loads : List Load) (ending : Ending Sets)
    : Type 0 where
  pub comes : Comes before.files.held plan loads (ends ending)
  pub quiet : NoneRose before.files now.files

-- the line of a file is due: the loads before gave their bytes, and the count of its name rose
pub record Unloaded {Sets : Type 0} (plan : Plan Sets) (before now : Outside) (loads : List Load) (ending : Ending Sets)
    : Type 0 where
  pub earlier : List Load
  pub file : File
  pub next : List ℕ → Plan Sets
  pub comes : Comes before.files.held plan earlier (asks file next)
  pub last : loads ≡ earlier ++ load_of file ∷ []
  pub risen : HasRisen (before.files.faults file.name) (now.files.faults file.name)
  pub line : ending ≡ unloaded file

-- an ending is due: the plan gives it, or a file was not loaded
abbrev pub IsDue : {Sets : Type 0} → Plan Sets → Outside → Outside → List Load → Ending Sets → Type 0
IsDue plan before now loads ending = Reached plan before now loads ending ⊎ Unloaded plan before now loads ending

-- what stands where memory was refused: nothing, or what the ending that was due lets stand
abbrev pub IsUnfinished : (p : Program) → Plan p.Sets → Outside → Outside → List Load → Type 0
IsUnfinished p plan before now loads =
    Wrote before.output now.output []
    ⊎ ((ending : Ending p.Sets) × Reached plan before now loads ending
    × WroteAmong p ending.unfinished before.output now.output)

-- each name that was asked for is of a kind
abbrev pub EachName : (List ℕ → Type 0) → List Load → Type 0
EachName P [] = Unit {0}
EachName P (load ∷ loads) = P load.name × EachName P loads

-- no count rose of a name that was asked for
abbrev pub NoneAskedRose : Outside → Outside → List Load → Type 0
NoneAskedRose before now loads = EachName (λ name. ¬ HasRisen (before.files.faults name) (now.files.faults name)) loads

-- what a call promises that follows a plan
pub record Promise (p : Program) (plan : Plan p.Sets) (before now : Outside) (answer : Answer p.Kept) : Type 0 where
  -- It asked for these loads, each once, and they are those of its plan in their order.
  pub loads : List Load
  pub asked : now.files.loads ≡ before.files.loads ++ loads
  pub in_order : AsksFirst before.files.held plan loads
  -- With a status up to 4 it ended as its plan says, and no count rose.
  pub ended : answer.status ≤ 4
      → (ending : Ending p.Sets) × Reached plan before now loads ending
      × Showed p ending before.output now.output answer
  -- Status 5 comes only where the count of a file's name rose, with the line of that file.
  pub failed : answer.status ≡ 5
      → (ending : Ending p.Sets) × Unloaded plan before now loads ending
      × Showed p ending before.output now.output answer
  -- Status 6 comes only where the sink's count rose, and a text that was due is cut short.
  pub stopped : answer.status ≡ 6
      → (ending : Ending p.Sets) × IsDue plan before now loads ending
      × CutAmong p ending.texts before.output now.output
  -- Status 7 is want of memory: no count rose, and what is written is nothing, or what the ending that was due lets
  -- stand.
  pub refused : answer.status ≡ 7
      → NoneRose before.files now.files × IsUnfinished p plan before now loads
  pub statuses : answer.status ≤ 7
  -- Over files that are told, a call in which no asked count rose ended as its plan says, or memory was refused.
  pub told : (ending : Ending p.Sets) → told_ending before.files.held plan ≡ Some ending
      → NoneAskedRose before now loads
      → ¬ HasRisen before.output.faults now.output.faults
      → Showed p ending before.output now.output answer ⊎ (answer.status ≡ 7)
  -- Nothing is kept where the plan's ending was not shown.
  pub dropped : 5 ≤ answer.status → answer.kept ≡ None
  -- Each piece that was given whole is one line.
  pub pieces : GaveLines before.output now.output
  -- No count falls, and the library holds what it held.
  pub counts : NoneFell before.files now.files × (before.output.faults ≤ now.output.faults)
  pub keeps : HoldsTheSame before.files now.files
