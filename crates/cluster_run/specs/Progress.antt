-- How far a cluster is, as contracts see it.
use Rattle.std.specs.Prelude.{◌≡◌, ◌+◌, None, Result, OnOk, OnErr, IfErr, IsErr}
use Rattle.ttp_base.specs.declared.fault.Memory.{Memory}
use Rattle.ttp_world.specs.declared.medl.Medl.{Medl}
use Rattle.ttp_world.specs.declared.script.Script.{Script}
use Rattle.cluster_run.specs.declared.progress.Course.{Course}
use Rattle.cluster_run.specs.declared.progress.Progress.{Progress}
use Rattle.cluster_run.specs.Choosing.{AreBytesBefore}
use Rattle.cluster_run.specs.Clusters.{IsClusterWithin}
use Rattle.cluster_run.specs.Slots.{ClusterSteps}
use Rattle.cluster_run.specs.Standing.{ClusterView, cluster_of}

-- the cluster of a course that is so far
abbrev pub cluster_at : Course → Progress → ClusterView
cluster_at course at = cluster_of course.list.now course.script.now at.done at.nodes at.report

-- it holds what does between two slots
abbrev pub IsOnCourse : Course → Progress → Type 0
IsOnCourse course at = IsClusterWithin course.list.now course.script.now at.done at.nodes

-- it is so, and something is known of the run: by that, who watches made this of the slots that were done
pub record MayRun {Start Out : Type 0} (follows : Start → Out → ClusterView → Type 0) (course : Course) (at : Progress)
    (out : Out) : Type 0 where
  pub within : IsOnCourse course at
  pub start : Start
  pub followed : follows start out (cluster_at course at)

-- A run did slots: what was so of those before is so of these too, or who watches left it.
pub record HasRunOn {Start Out Fault : Type 0} (follows : Start → Out → ClusterView → Type 0)
    (leaves : Start → Out → Fault → Medl → Script → Type 0) (course : Course) (old new : Progress) (before after : Out)
    (result : Result (Unit {0}) Fault) : Type 0 where
  pub within : IsOnCourse course new
  pub ok : OnOk result ((start : Start) → follows start before (cluster_at course old)
      → follows start after (cluster_at course new))
  pub fault : IfErr result (λ fault. (start : Start) → follows start before (cluster_at course old)
      → leaves start after fault course.list.now course.script.now)

-- a cluster did the next slot; or memory was refused, and from then on for good
pub record HasDoneNext (course : Course) (old new : Progress) (result : Result (Unit {0}) Memory) : Type 0 where
  pub within : IsOnCourse course new
  pub steps : OnOk result (ClusterSteps (cluster_at course old) (cluster_at course new))
  pub bytes : OnOk result (AreBytesBefore course.list.now course.script.now new.done)
  pub done : OnOk result (new.done ≡ old.done + 1)
  pub undone : OnErr result (new.done ≡ old.done)
  pub gone : OnErr result (new.nodes ≡ None)
  pub for_good : old.nodes ≡ None → IsErr result
