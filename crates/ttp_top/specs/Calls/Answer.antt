-- What is this program's own in the promise of a call: its sets of texts, and the cluster that it keeps beside some.
use Rattle.std.specs.Prelude.{◌≡◌, ◌==◌, ℕ, Option, Some, None, IsSomeAnd, if◌then◌else◌}
use Rattle.ttp_base.specs.Outside.{Output}
use Rattle.ttp_base.specs.Text.{Lines}
use Rattle.ttp_world.specs.declared.medl.Medl.{Medl}
use Rattle.ttp_world.specs.declared.script.Script.{Script}
use Rattle.ttp_world.specs.Legal.{IsLegalRun}
use Rattle.ttp_world.specs.Medl.{IsValid}
use Rattle.ttp_world.specs.Script.{IsValidScript}
use Rattle.ttp_world.specs.TraceNumbers.{numbers_in}
use Rattle.ttp_world.specs.World.{Numbers}
use Rattle.script_gen.specs.Generator.{generated}
use Rattle.cluster_run.specs.Standing.{ClusterView, ClusterStandsFor}
use Rattle.commands.specs.Plan.{Ending, Plan}
use Rattle.commands.specs.Texts.{Program, those, Answer, WroteAmong, CutAmong}
use Rattle.ttp_top.specs.Calls.Texts.{Sets, traces, fronts, differences, precisions, samples, IsOf}

-- a cluster that has done all slots of a valid script for a valid list, and stands for these message numbers
pub record HasRun (list : Medl) (script : Script) (numbers : Numbers) (c : ClusterView) : Type 0 where
  pub valid : IsValid list
  pub valid_script : IsValidScript list script
  pub list_is : c.list ≡ list
  pub script_is : c.script ≡ script
  pub done : c.done ≡ script.slots
  pub stands : ClusterStandsFor c numbers

-- one that stands for legal ones
pub record HasRunLegally (list : Medl) (script : Script) (c : ClusterView) : Type 0 where
  pub numbers : Numbers
  pub legal : IsLegalRun list script numbers
  pub run : HasRun list script numbers c

-- what is kept of a cluster after a status
abbrev pub kept_after : ℕ → ClusterView → Option ClusterView
kept_after status c = if status == 0 then Some c else None

-- What is kept beside a text of a set that is written whole: beside a trace the cluster that ran, which stands for the
-- message numbers that the trace names; beside the lines on a generated run the cluster that ran, which stands for
-- legal ones; and no cluster beside any other text.
abbrev pub IsBeside : Sets → Lines → Option ClusterView → Type 0
IsBeside (traces list script) lines kept = IsSomeAnd kept (λ c. HasRun list script (numbers_in list script lines) c)
IsBeside (fronts list script) lines kept = kept ≡ None
IsBeside (differences list script text) lines kept = kept ≡ None
IsBeside (precisions list script node) lines kept = kept ≡ None
IsBeside (samples list slots number) lines kept =
    IsSomeAnd kept (λ c. HasRunLegally list (generated list slots number) c)

-- the program
abbrev pub ttpbench : Program
ttpbench = record { Sets = Sets; Kept = ClusterView; IsOf = IsOf; Beside = IsBeside }

-- a status, and the cluster that is kept
abbrev pub BenchAnswer : Type 0
BenchAnswer = Answer ClusterView

-- how a command of it may end
abbrev pub BenchEnding : Type 0
BenchEnding = Ending Sets

-- how one goes on
abbrev pub BenchPlan : Type 0
BenchPlan = Plan Sets

-- a text of a set was written, each of its lines as one piece, or a fault of the sink cut one short
abbrev pub WroteOf : Sets → Output → Output → Type 0
WroteOf set before now = WroteAmong ttpbench (those set) before now

-- a text of a set was cut short
abbrev pub CutOf : Sets → Output → Output → Type 0
CutOf set before now = CutAmong ttpbench (those set) before now
