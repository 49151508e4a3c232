-- What is the own part of `ttplab` in the promise of a call: which texts it may write, which first lines of one want of
-- memory may leave, and that it keeps nothing for its caller.
use Rattle.std.specs.Prelude.{◌≡◌, ℕ, List, ◌∷◌, ◌++◌, None}
use Rattle.ttp_base.specs.Text.{Lines}
use Rattle.ttp_world.specs.declared.medl.Medl.{Medl}
use Rattle.ttp_world.specs.declared.script.Script.{Script}
use Rattle.commands.specs.Plan.{Ending, Plan}
use Rattle.commands.specs.Texts.{Program, Answer}
use Rattle.trace_check.specs.Difference.{IsDifference}

-- A set of texts.
pub data LabSets : Type 0 where
  -- no lines, or the first lines of this text, but not all
  begun : (text : Lines) → LabSets
  -- the line that names the first wrong one of a text that is no trace of a list and a script
  differences : (list : Medl) (script : Script) (text : List ℕ) → LabSets

-- these lines begin a text, and are not all of it
pub record IsProperFront (text lines : Lines) : Type 0 where
  pub next : List ℕ
  pub rest : Lines
  pub begins : text ≡ lines ++ next ∷ rest

-- these lines are a text of a set
abbrev pub IsOfSet : LabSets → Lines → Type 0
IsOfSet (begun text) lines = IsProperFront text lines
IsOfSet (differences list script text) lines = IsDifference list script text lines

-- the program
abbrev pub ttplab : Program
ttplab = record { Sets = LabSets; Kept = ⊥; IsOf = IsOfSet; Beside = λ set lines kept. kept ≡ None }

-- its endings, plans and answers
abbrev pub LabEnding : Type 0
LabEnding = Ending LabSets

abbrev pub LabPlan : Type 0
LabPlan = Plan LabSets

abbrev pub LabAnswer : Type 0
LabAnswer = Answer ⊥
