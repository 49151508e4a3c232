-- What a walk over the slots has seen.
use Rattle.std.specs.Prelude.{◌≡◌, ℕ, ◌*◌, List, [], ◌∷◌, ◌++◌, length, Option, Some, None, IfSome}
use Rattle.std.specs.Option.{option_or}
use Rattle.ttp_base.specs.NodeSet.{has_node}
use Rattle.ttp_world.specs.declared.medl.Medl.{Medl}
use Rattle.ttp_world.specs.declared.script.Script.{Script}
use Rattle.ttp_world.specs.Hypothesis.{ClusterStart, FaultyNode, numbers_of, nodes_made, loss_in}
use Rattle.ttp_world.specs.Returning.{slots_before, faulty_since}
use Rattle.hypothesis.specs.FaultyRuns.{AreFaultsAt, IsBackAt}
use Rattle.hypothesis.specs.Standing.{HaveSameNodes}
use Rattle.broken_faults.specs.declared.causes.Fault.{Fault}
use Rattle.broken_faults.specs.declared.early.EarlyFault.{EarlyFault}
use Rattle.broken_faults.specs.declared.early.Since.{Since}
use Rattle.broken_faults.specs.declared.few.Seen.{Seen}
use Rattle.broken_faults.specs.Faults.{cause_of, faulty_in, faults_before, first_early, newest_fault}

-- the fault that the code knows, with what its slot makes of the nodes
abbrev pub told_fault : Option Fault → Option FaultyNode
told_fault None = None
told_fault (Some f) = Some (record { slot = f.slot; node = f.node })

-- the fault that the code knows, as a list of one or none
abbrev pub told_faults : Option Fault → List FaultyNode
told_faults None = []
told_faults (Some f) = record { slot = f.slot; node = f.node } ∷ []

-- what its slot makes of the nodes is so, and whether the slot's loss made its node faulty
pub record IsFault (list : Medl) (script : Script) (start : ClusterStart) (f : Fault) : Type 0 where
  pub lost : f.is_lost ≡ has_node
      (nodes_made (loss_in list script start (faulty_in list script start f.slot) f.slot)) f.node
  pub faults : AreFaultsAt list script start f.slot f.faults

-- the walk has gone over so many slots
pub record IsSeenAt (list : Medl) (script : Script) (start : ClusterStart) (slot : ℕ) (seen : Seen) : Type 0 where
  pub walk : IsBackAt list script slot seen.walk
  pub faulty : HaveSameNodes seen.faulty (numbers_of (faulty_since (slots_before list script start slot)))
  pub newest : told_fault seen.newest ≡ newest_fault None (faults_before list script start slot)
  pub known : IfSome seen.newest (IsFault list script start)

-- of some faults one came too early, or none did, and the next ones are to lie behind another than these
abbrev pub LooksOver : Medl → Script → ClusterStart → Since → List FaultyNode → Option EarlyFault → Since → Type 0
LooksOver list script start before faults found next =
    (rest : List FaultyNode)
    → first_early (cause_of list script start) (2 * length list.slots) before (faults ++ rest)
    ≡ option_or found (first_early (cause_of list script start) (2 * length list.slots) next rest)
