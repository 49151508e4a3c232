-- A run of a cluster through many slots, as who watches it is told.
use Rattle.std.specs.Prelude.{◌≡◌, ◌+◌, ◌<◌, ◌≤◌}
use Rattle.ttp_world.specs.declared.medl.Medl.{Medl}
use Rattle.ttp_world.specs.Medl.{IsValid}
use Rattle.ttp_world.specs.Script.{IsValidScript}
use Rattle.host_port.specs.declared.report.SlotReport.{SlotReport}
use Rattle.cluster_run.specs.Choosing.{AreBytesBefore}
use Rattle.cluster_run.specs.Slots.{ClusterSteps}
use Rattle.cluster_run.specs.Standing.{ClusterView}

-- a cluster did a slot, and the list and the script are as they were
pub record HasDoneSlot (old new : ClusterView) : Type 0 where
  pub list : new.list ≡ old.list
  pub script : new.script ≡ old.script
  pub valid : IsValid old.list
  pub valid_script : IsValidScript old.list old.script
  pub done : new.done ≡ old.done + 1
  pub within : old.done < old.script.slots
  pub steps : ClusterSteps old new
  pub bytes : AreBytesBefore new.list new.script new.done

-- what is told after a slot is its list and its report
pub record IsToldOf (old new : ClusterView) (list : Medl) (report : SlotReport) : Type 0 where
  pub stepped : HasDoneSlot old new
  pub list_is : new.list ≡ list
  pub report_is : new.report ≡ report

-- a cluster in a run of its list and script
pub record IsInRun (c : ClusterView) : Type 0 where
  pub valid : IsValid c.list
  pub valid_script : IsValidScript c.list c.script
  pub few : c.done ≤ c.script.slots
