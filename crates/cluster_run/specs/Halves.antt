-- The nodes are cut in two halves for the end of a slot, and joined again.
use Rattle.std.specs.Prelude.{◌≡◌, ℕ, ◌++◌, length}
use Rattle.std.specs.Arc.{arc_value}
use Rattle.medium.specs.Carried.{Carried}
use Rattle.cluster_run.specs.declared.current.CurrentSlot.{CurrentSlot}
use Rattle.cluster_run.specs.declared.jobs.EndJob.{EndJob}
use Rattle.cluster_run.specs.declared.nodes.Nodes.{Nodes}

-- a part is for the end of this slot, with what was on the medium, from this node on
pub record IsPartAt (at : CurrentSlot) (carried : Carried) (first : ℕ) (part : EndJob) : Type 0 where
  pub list : part.list.now ≡ at.list.now
  pub script : part.script.now ≡ at.script.now
  pub medium : arc_value part.medium ≡ carried
  pub first_is : part.first ≡ first

-- both halves were taken out, each with what was on the medium
pub record AreHalves (at : CurrentSlot) (old new : Nodes) (front back : EndJob) : Type 0 where
  pub front_at : IsPartAt at old.medium 0 front
  pub back_at : IsPartAt at old.medium (length front.seats.items) back
  pub seats : old.seats.items ≡ front.seats.items ++ back.seats.items
  pub desks : old.desks.items ≡ front.desks.items ++ back.desks.items
  pub desks_count : length front.desks.items ≡ length front.seats.items
  pub host_ends : new.host_ends ≡ old.host_ends
  pub chosen : new.chosen ≡ old.chosen

-- the two halves were put back, one behind the other
pub record ArePutBack (old : Nodes) (front back : EndJob) (new : Nodes) : Type 0 where
  pub seats : new.seats.items ≡ front.seats.items ++ back.seats.items
  pub desks : new.desks.items ≡ front.desks.items ++ back.desks.items
  pub host_ends : new.host_ends ≡ old.host_ends
  pub chosen : new.chosen ≡ old.chosen
