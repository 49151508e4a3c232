-- Work of a slot that may be given away, and what is made of it.
use Rattle.std.specs.Prelude.{◌≡◌, ℕ, ◌≤◌, List, [], length, vec_capacity, All}
use Rattle.std.specs.Arc.{arc_value}
use Rattle.std.specs.List.{filter_map}
use Rattle.ttp_world.specs.declared.script.Script.{Script}
use Rattle.ttp_world.specs.Script.{write_at}
use Rattle.host_port.specs.Rings.{HostState}
use Rattle.host_port.specs.declared.report.WriteLine.{WriteLine}
use Rattle.cluster_run.specs.declared.jobs.EndJob.{EndJob}
use Rattle.cluster_run.specs.declared.jobs.Job.{Job}
use Rattle.cluster_run.specs.declared.jobs.Job.TheVariants as job
use Rattle.cluster_run.specs.Ending.{IsPartReady, HasPartEnded}
use Rattle.cluster_run.specs.Ends.{host_at}
use Rattle.cluster_run.specs.Reading.{HaveRead, HaveRoomForReads}
use Rattle.cluster_run.specs.Sending.{MayWriteAll, MayFetchAll, FetchAll, WritesBytes, after_writes, host_write_lines}

-- the part of a job may end the slot
abbrev pub IsJobReady : EndJob → Type 0
IsJobReady j =
    IsPartReady j.list.now j.script.now (arc_value j.medium) j.first j.seats.items j.desks.items

-- it has ended the slot
abbrev pub HasJobEnded : EndJob → EndJob → Type 0
HasJobEnded j k =
    HasPartEnded j.list.now j.script.now (arc_value j.medium) j.first j.seats.items k.seats.items j.desks.items
    k.desks.items

-- hosts may write what is at these places, and there is room for its lines
pub record MayWriteAt (script : Script) (places : List ℕ) (ends : List HostState) (lines : List WriteLine) (space : ℕ)
    : Type 0 where
  pub writes : MayWriteAll script (length (filter_map (write_at script) places)) ends
  pub empty : lines ≡ []
  pub room : length places ≤ space

-- what hosts write at these places is in their rings, and these are its lines
pub record HaveWrittenAt (script : Script) (places : List ℕ) (old new : List HostState) (lines : List WriteLine)
    : Type 0 where
  pub count : length new ≡ length old
  pub ends : (k : ℕ) → host_at new k ≡ after_writes (filter_map (write_at script) places) k (host_at old k)
  pub lines_are : lines ≡ host_write_lines old [] (filter_map (write_at script) places)
  pub bytes : All WritesBytes (filter_map (write_at script) places)

-- a job may be done
abbrev pub MayDo : Job → Type 0
MayDo (job.End part) = IsJobReady part
MayDo (job.Fetch fetchers) = MayFetchAll fetchers.items
MayDo (job.Write script places ends lines) =
    MayWriteAt script.now places.now ends.items lines.items (vec_capacity lines)
MayDo (job.Read reads readers) = HaveRoomForReads reads.now readers.items

-- it was done, and is this one then
abbrev pub HasDone : Job → Job → Type 0
HasDone (job.End part) (job.End part') = HasJobEnded part part'
HasDone (job.Fetch fetchers) (job.Fetch fetchers') = FetchAll fetchers.items fetchers'.items
HasDone (job.Write script places ends lines) (job.Write script' places' ends' lines') =
    HaveWrittenAt script.now places.now ends.items ends'.items lines'.items
HasDone (job.Read reads readers) (job.Read reads' readers') = HaveRead reads.now readers.items readers'.items
HasDone _ _ = ⊥

-- it is the end of the slot for a part of the nodes
abbrev pub IsPart : Job → Type 0
IsPart (job.End part) = Unit {0}
IsPart _ = ⊥
