-- How far the trace of a run is written, and what a fault leaves of it.
use Rattle.ttp_base.specs.Outside.{Output, WroteLines}
use Rattle.ttp_world.specs.declared.medl.Medl.{Medl}
use Rattle.ttp_world.specs.declared.script.Script.{Script}
use Rattle.ttp_world.specs.Legal.{IsLegal}
use Rattle.ttp_world.specs.Trace.{run_lines}
use Rattle.ttp_world.specs.World.{Numbers}
use Rattle.cluster_run.specs.Standing.{ClusterView, ClusterStandsFor}
use Rattle.ttp_top.specs.declared.trace.RunFault.{RunFault}
use Rattle.ttp_top.specs.declared.trace.RunFault.TheVariants as fault
use Rattle.ttp_top.specs.Calls.Answer.{WroteOf, CutOf}
use Rattle.ttp_top.specs.Calls.Texts.{traces, fronts}

-- a cluster stands for legal numbers of as many slots as it has done, and the trace up to there was written for them
pub record HasWritten (before now : Output) (c : ClusterView) : Type 0 where
  pub numbers : Numbers
  pub stands : ClusterStandsFor c numbers
  pub legal : IsLegal c.list c.script numbers
  pub lines : WroteLines before now (run_lines c.list c.script numbers)

-- want of memory comes between two slots, and leaves whole lines
abbrev pub Leaves : RunFault → Medl → Script → Output → Output → Type 0
Leaves fault.Memory list script before now = WroteOf (fronts list script) before now
Leaves fault.Failed list script before now = CutOf (traces list script) before now
