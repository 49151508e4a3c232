-- The promises of `keeps MEDL SCRIPT` and of `precision MEDL SCRIPT NODE` in their own words.
use Rattle.std.specs.Prelude.{◌≡◌, ◌⊎◌, ◌≤ℤ◌, ℕ, List, [], ◌∷◌}
use Rattle.ttp_base.specs.Outside.{HasRisen, Output, Wrote, WroteLines, CutShort}
use Rattle.ttp_base.specs.Text.{Lines}
use Rattle.ttp_world.specs.declared.medl.Medl.{Medl}
use Rattle.ttp_world.specs.declared.script.Script.{Script}
use Rattle.ttp_world.specs.Legal.{IsLegalRun}
use Rattle.ttp_world.specs.Trace.{test_lines}
use Rattle.ttp_world.specs.World.{Numbers, world}
use Rattle.two_faced.specs.declared.faced.Faced.TheVariants as faced
use Rattle.two_faced.specs.declared.seen.Seen.{Seen}
use Rattle.two_faced.specs.Faced.{bound, faced_of}
use Rattle.theorems.specs.FacedRun.{IsFacedRun}
use Rattle.theorems.specs.SomeRun.{SomeRun}
use Rattle.commands.specs.Plan.{Outside}
use Rattle.commands.specs.Right.{MayBe, AreRight, AreTold}
use Rattle.ttp_top.specs.Calls.Answer.{BenchAnswer}
use Rattle.ttp_top.specs.Calls.Precision.{faced_line, precision_line}

-- lines of which this is so were written
pub record WroteSuch (such : Lines → Type 0) (before now : Output) : Type 0 where
  pub lines : Lines
  pub is : such lines
  pub wrote : WroteLines before now lines

-- a fault of the sink cut such lines short
pub record CutSuch (such : Lines → Type 0) (before now : Output) : Type 0 where
  pub lines : Lines
  pub is : such lines
  pub cut : CutShort before now lines

-- they were written for a list and a script that the files of these names may be
pub record WroteFor (such : Medl → Script → Lines → Type 0) (list script : List ℕ) (before now : Outside) : Type 0
  where
    pub bytes : List ℕ
    pub script_bytes : List ℕ
    pub medl : Medl
    pub right : Script
    pub list_file : MayBe (before.files.held list) bytes
    pub script_file : MayBe (before.files.held script) script_bytes
    pub are : AreRight bytes script_bytes medl right
    pub text : WroteSuch (such medl right) before.output now.output

-- what a command promises that writes the lines of a test
pub record TestPromise (such : Medl → Script → Lines → Type 0) (list script : List ℕ) (before now : Outside)
    (answer : BenchAnswer) : Type 0 where
  -- Status 0 says that the lines of the test were written.
  pub said : answer.status ≡ 0 → WroteFor such list script before now
  -- A right list and a right script give them and status 0, unless a count rose or memory was refused: then nothing was
  -- written.
  pub complete : (medl : Medl) (right : Script) → AreTold list script before now medl right
      → ¬ HasRisen before.output.faults now.output.faults
      → ((answer.status ≡ 0) × WroteSuch (such medl right) before.output now.output)
      ⊎ ((answer.status ≡ 7) × Wrote before.output now.output [])
  -- With status 6 they were cut short.
  pub cut : (medl : Medl) (right : Script) → AreTold list script before now medl right → answer.status ≡ 6
      → CutSuch (such medl right) before.output now.output

-- the last lines of a trace
abbrev pub AreTestLines : Medl → Script → Lines → Type 0
AreTestLines medl right lines = lines ≡ test_lines medl right

-- what `keeps` promises in its own words
abbrev pub KeepsPromise : (list script : List ℕ) (before now : Outside) (answer : BenchAnswer) → Type 0
KeepsPromise list script before now answer = TestPromise AreTestLines list script before now answer

-- where a node may be two-faced, the line shows the start, the bound, and a difference of clocks that is within it
pub record ShowsBound (medl : Medl) (node start : ℕ) (lines : Lines) : Type 0 where
  pub seen : Seen
  pub line : lines ≡ faced_line medl node start seen ∷ []
  pub within : seen.value ≤ℤ bound medl

-- The line of the test for one two-faced sender, which is the same for all legal message numbers, and there are such.
-- Where the node may be one, it shows the bound, and after each slot from the start on, in every run by legal numbers,
-- all nodes that are on are active, hold one membership, and have clocks within that bound.
pub record IsPrecisionLine (node : ℕ) (medl : Medl) (right : Script) (lines : Lines) : Type 0 where
  pub text : (numbers : Numbers) → IsLegalRun medl right numbers
      → lines ≡ precision_line medl right node numbers ∷ []
  pub run : SomeRun medl right
  pub bound : (start : ℕ) → faced_of medl right node ≡ faced.Yes start → ShowsBound medl node start lines
  pub together : (start : ℕ) → faced_of medl right node ≡ faced.Yes start → (numbers : Numbers)
      → IsLegalRun medl right numbers → IsFacedRun medl right start (world medl right numbers)

-- what `precision` promises in its own words
abbrev pub PrecisionPromise : (list script : List ℕ) (node : ℕ) (before now : Outside) (answer : BenchAnswer) → Type 0
PrecisionPromise list script node before now answer =
    TestPromise (IsPrecisionLine node) list script before now answer
