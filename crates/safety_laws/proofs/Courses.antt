-- The course of a run's faults: who is faulty at the beginning of each slot, and who became so before it.
use Rattle.safety_laws.proofs.PlanWords.{List, [], false, length, suc, true, ℕ, ◌++◌, ◌+◌, ◌<◌, ◌≡◌, ClusterStart}
use Rattle.safety_laws.proofs.PlanWords.{FaultyNode, is_breaking, jumpers_in, loss_in, nodes_made, IsValid, is_ever_on}
use Rattle.safety_laws.proofs.PlanWords.{is_on, Medl, Script, two_rounds}
use Rattle.ttp_world.specs.Starts.{StartsAlone}
use Rattle.safety_laws.proofs.Spaced.{IsSpaced, all_in}

-- all nodes that are ever on are on by a slot
abbrev pub AreOnBy : Medl → Script → ℕ → Type 0
AreOnBy list script slot = (k : ℕ) → k < length list.slots → is_ever_on script k ≡ true → is_on script k slot ≡ true

-- the nodes that a slot makes faulty, where some are so at its beginning
abbrev pub made_of : Medl → Script → ClusterStart → List ℕ → ℕ → List ℕ
made_of list script start faulty slot =
    nodes_made (loss_in list script start faulty slot) ++ jumpers_in list script faulty slot

-- what rules on faults say of both, whether or not nodes are forgiven
pub record IsCourse (list : Medl) (script : Script) (start : ClusterStart) (at : ℕ → List ℕ)
    (all : ℕ → List FaultyNode) : Type 0 where
  pub valid : IsValid list
  pub alone : StartsAlone list script start
  pub on : AreOnBy list script start.slot
  pub whole : (slot : ℕ) → slot < script.slots → is_breaking (loss_in list script start (at slot) slot) ≡ false
  pub none : all 0 ≡ []
  pub next : (slot : ℕ) → all (suc slot) ≡ all_in slot (made_of list script start (at slot) slot) ++ all slot
  pub spaced : IsSpaced (two_rounds list) (start.slot + two_rounds list) (all script.slots)
