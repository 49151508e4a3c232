-- The promise of `sample MEDL SLOTS NUMBER` in its own words.
use Rattle.std.specs.Prelude.{◌≡◌, ◌⊎◌, ℕ, ◌≤◌, List, [], length, Ok, Option, IsSomeAnd}
use Rattle.ttp_base.specs.Outside.{holds, HasRisen, Output, Wrote, WroteLines}
use Rattle.ttp_base.specs.Text.{Lines}
use Rattle.ttp_world.specs.declared.medl.Medl.{Medl}
use Rattle.ttp_world.specs.Legal.{IsLegalRun}
use Rattle.ttp_world.specs.World.{Numbers}
use Rattle.medl_text.specs.ListFile.{medl_of}
use Rattle.script_gen.specs.Generator.{generated}
use Rattle.cluster_run.specs.Standing.{ClusterView}
use Rattle.commands.specs.Plan.{Outside}
use Rattle.commands.specs.Read.{list_limit}
use Rattle.commands.specs.Right.{MayBe}
use Rattle.ttp_top.specs.Calls.Answer.{BenchAnswer, HasRunLegally}
use Rattle.ttp_top.specs.Samples.Lines.{sample_lines}

-- The four lines were written, and they are the same for all legal numbers of the generated run. The cluster that ran
-- is kept, and stands for some of them.
pub record WroteSampleOf (medl : Medl) (slots number : ℕ) (before now : Output) (kept : Option ClusterView) : Type 0
  where
    pub lines : Lines
    pub wrote : WroteLines before now lines
    pub text : (numbers : Numbers) → IsLegalRun medl (generated medl slots number) numbers
        → lines ≡ sample_lines medl slots number numbers
    pub ran : IsSomeAnd kept (λ c. HasRunLegally medl (generated medl slots number) c)

-- they were written for a list that the file of this name may be
pub record WroteSample (list : List ℕ) (slots number : ℕ) (before now : Outside) (kept : Option ClusterView) : Type 0
  where
    pub bytes : List ℕ
    pub medl : Medl
    pub list_file : MayBe (before.files.held list) bytes
    pub size : length bytes ≤ list_limit
    pub right : medl_of bytes ≡ Ok medl
    pub text : WroteSampleOf medl slots number before.output now.output kept

-- the file of this name holds a right list, and the count of its name did not rise
pub record HoldsRightList (list : List ℕ) (before now : Outside) (medl : Medl) : Type 0 where
  pub bytes : List ℕ
  pub list_file : before.files.held list ≡ holds bytes
  pub size : length bytes ≤ list_limit
  pub right : medl_of bytes ≡ Ok medl
  pub quiet : ¬ HasRisen (before.files.faults list) (now.files.faults list)

-- what `sample` promises in its own words
pub record SamplePromise (list : List ℕ) (slots number : ℕ) (before now : Outside) (answer : BenchAnswer) : Type 0 where
  -- Status 0 says that the lines on the generated run for the list were written.
  pub sample : answer.status ≡ 0 → WroteSample list slots number before now answer.kept
  -- A right list gives them and status 0, unless a count rose or memory was refused: then nothing was written.
  pub complete : (medl : Medl) → HoldsRightList list before now medl → ¬ HasRisen before.output.faults now.output.faults
      → ((answer.status ≡ 0) × WroteSampleOf medl slots number before.output now.output answer.kept)
      ⊎ ((answer.status ≡ 7) × Wrote before.output now.output [])
