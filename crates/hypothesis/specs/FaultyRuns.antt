-- How far a walk that tells the faulty nodes of a run has gone.
use Rattle.std.specs.Prelude.{◌≡◌, ℕ, Some, None}
use Rattle.ttp_world.specs.declared.medl.Medl.{Medl}
use Rattle.ttp_world.specs.declared.script.Script.{Script}
use Rattle.ttp_world.specs.Hypothesis.{ClusterStart, start_of, numbers_of, faulty_nodes_before}
use Rattle.ttp_world.specs.Returning.{disturbance_broken, slots_before, faulty_since, faulty_at}
use Rattle.hypothesis.specs.declared.faulty.BackFaulty.{BackFaulty}
use Rattle.hypothesis.specs.declared.faulty.KeptFaulty.{KeptFaulty}
use Rattle.hypothesis.specs.declared.losses.Jumps.TheVariants as jumps
use Rattle.hypothesis.specs.declared.walk.SlotFaults.{SlotFaults}
use Rattle.hypothesis.specs.FaultySlots.{AreNewest}
use Rattle.hypothesis.specs.SlotIncidents.{AreKeptFrom}
use Rattle.hypothesis.specs.Standing.{told_start, HaveSameNodes}
use Rattle.hypothesis.specs.Walks.{AreFaultsIn}

-- it knows the start and which jumps there are, and has gone over so many slots
pub record KnowsKept (list : Medl) (script : Script) (slot : ℕ) (walk : KeptFaulty) : Type 0 where
  pub start : start_of list script ≡ Some (told_start walk.start)
  pub jumps : walk.jumps ≡ jumps.Far → disturbance_broken list script ≡ None
  pub faulty : HaveSameNodes walk.faulty (numbers_of (faulty_nodes_before list script (told_start walk.start) slot))

-- and what it keeps of what happens to the nodes is so
pub record IsKeptAt (list : Medl) (script : Script) (slot : ℕ) (walk : KeptFaulty) : Type 0 where
  pub known : KnowsKept list script slot walk
  pub kept : AreKeptFrom list script slot walk.kept

-- the walk by the test on armed nodes stands at a slot
pub record KnowsBack (list : Medl) (script : Script) (slot : ℕ) (walk : BackFaulty) : Type 0 where
  pub start : start_of list script ≡ Some (told_start walk.start)
  pub jumps : walk.jumps ≡ jumps.Far → disturbance_broken list script ≡ None
  pub end : walk.newest.end ≡ slot
  pub newest : AreNewest list script (told_start walk.start) walk.newest
  pub faulty : HaveSameNodes walk.faulty
      (numbers_of (faulty_since (slots_before list script (told_start walk.start) slot)))

pub record IsBackAt (list : Medl) (script : Script) (slot : ℕ) (walk : BackFaulty) : Type 0 where
  pub known : KnowsBack list script slot walk
  pub kept : AreKeptFrom list script slot walk.kept

-- what a slot makes of the faulty nodes, by the test on armed nodes
abbrev pub AreFaultsAt : Medl → Script → ClusterStart → ℕ → SlotFaults → Type 0
AreFaultsAt list script start slot faults =
    AreFaultsIn list script start slot (faulty_at list script start slot) faults
