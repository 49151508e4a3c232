-- The promise of `run MEDL SCRIPT` in its own words.
use Rattle.std.specs.Prelude.{◌≡◌, ◌⊎◌, ℕ, List, Option, IsSomeAnd}
use Rattle.ttp_base.specs.Outside.{HasRisen, Output, WroteLines}
use Rattle.ttp_base.specs.Text.{Lines}
use Rattle.ttp_world.specs.declared.keep.Back.TheVariants as back
use Rattle.ttp_world.specs.declared.keep.Keep.TheVariants as keep
use Rattle.ttp_world.specs.declared.medl.Medl.{Medl}
use Rattle.ttp_world.specs.declared.script.Script.{Script}
use Rattle.ttp_world.specs.Hypothesis.{keeps}
use Rattle.ttp_world.specs.Legal.{IsLegalRun}
use Rattle.ttp_world.specs.Medl.{IsValid}
use Rattle.ttp_world.specs.Returning.{returns}
use Rattle.ttp_world.specs.Script.{IsValidScript}
use Rattle.ttp_world.specs.Trace.{trace_lines}
use Rattle.ttp_world.specs.TraceNumbers.{numbers_in}
use Rattle.ttp_world.specs.World.{world}
use Rattle.cluster_run.specs.Standing.{ClusterView}
use Rattle.theorems.specs.KeptRun.{IsKeptRun, IsBackRun}
use Rattle.commands.specs.Plan.{Outside}
use Rattle.commands.specs.Right.{MayBe, AreRight, AreTold}
use Rattle.ttp_top.specs.Calls.Answer.{BenchAnswer, HasRun, WroteOf, CutOf}
use Rattle.ttp_top.specs.Calls.Texts.{traces, fronts}

-- A text was written that is the trace of the world's run for the numbers that its own lines name, and they are legal;
-- the list and the script are valid. Where the script keeps the single-fault hypothesis, after each slot of that run
-- from its start on it is safe, clocks of correct nodes are near, and they have judged the same frames and run one
-- mode; where armed nodes are guaranteed their places, it is safe with armed nodes. The cluster that ran is kept, and
-- stands for the same numbers.
pub record WroteTraceOf (medl : Medl) (right : Script) (before now : Output) (kept : Option ClusterView) : Type 0 where
  pub lines : Lines
  pub wrote : WroteLines before now lines
  pub text : lines ≡ trace_lines medl right (numbers_in medl right lines)
  pub valid : IsValid medl
  pub valid_script : IsValidScript medl right
  pub legal : IsLegalRun medl right (numbers_in medl right lines)
  pub keeping : (start : ℕ) → keeps medl right ≡ keep.Yes start
      → IsKeptRun medl right start (world medl right (numbers_in medl right lines))
  pub returning : (start : ℕ) → returns medl right ≡ back.Yes start
      → IsBackRun medl right start (world medl right (numbers_in medl right lines))
  pub ran : IsSomeAnd kept (λ c. HasRun medl right (numbers_in medl right lines) c)

-- it was written for a list and a script that the files of these names may be
pub record WroteTrace (list script : List ℕ) (before now : Outside) (kept : Option ClusterView) : Type 0 where
  pub bytes : List ℕ
  pub script_bytes : List ℕ
  pub medl : Medl
  pub right : Script
  pub list_file : MayBe (before.files.held list) bytes
  pub script_file : MayBe (before.files.held script) script_bytes
  pub are : AreRight bytes script_bytes medl right
  pub text : WroteTraceOf medl right before.output now.output kept

-- what `run` promises in its own words
pub record RunPromise (list script : List ℕ) (before now : Outside) (answer : BenchAnswer) : Type 0 where
  -- Status 0 says that a trace of the world's run for the list and the script was written.
  pub trace : answer.status ≡ 0 → WroteTrace list script before now answer.kept
  -- A right list and a right script give one and status 0, unless a count rose or memory was refused: then some first
  -- lines of one stand, or none, and never all.
  pub complete : (medl : Medl) (right : Script) → AreTold list script before now medl right
      → ¬ HasRisen before.output.faults now.output.faults
      → ((answer.status ≡ 0) × WroteTraceOf medl right before.output now.output answer.kept)
      ⊎ ((answer.status ≡ 7) × WroteOf (fronts medl right) before.output now.output)
  -- With status 6 one of the traces that a right list and a right script have was cut short.
  pub cut : (medl : Medl) (right : Script) → AreTold list script before now medl right → answer.status ≡ 6
      → CutOf (traces medl right) before.output now.output
  -- With status 7 whole lines of one stand, from its first one on, fewer than all.
  pub begun : (medl : Medl) (right : Script) → AreTold list script before now medl right → answer.status ≡ 7
      → WroteOf (fronts medl right) before.output now.output
