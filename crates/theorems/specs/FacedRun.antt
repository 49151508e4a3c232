-- What holds of a run in which one node may be two-faced.
use Rattle.std.specs.Prelude.{◌≡◌, ℕ, ◌<◌, ◌≤ℤ◌, ◌-ℤ◌, length, IsTrue}
use Rattle.ttp_world.specs.declared.medl.Medl.{Medl}
use Rattle.ttp_world.specs.declared.node.Phase.TheVariants as phase
use Rattle.ttp_world.specs.declared.script.Script.{Script}
use Rattle.ttp_world.specs.Diary.{History}
use Rattle.ttp_world.specs.Safety.{newest_slot, members_of_node}
use Rattle.ttp_world.specs.Script.{is_on}
use Rattle.ttp_world.specs.World.{node_past}
use Rattle.two_faced.specs.Faced.{bound}
use Rattle.two_faced.specs.Halved.{JudgedCorrectSince}
use Rattle.theorems.specs.Since.{HoldsSince}

-- a node of the list was on in the newest slot
abbrev pub IsOn : Medl → Script → History → ℕ → Type 0
IsOn list script history k = (k < length list.slots) × IsTrue (is_on script k (newest_slot history))

-- after the newest slot of a history all nodes that are on are active, and any two of them hold one membership and have
-- clocks that are no further apart than the bound, in microticks
pub record AreTogether (list : Medl) (script : Script) (history : History) : Type 0 where
  pub active : (k : ℕ) → IsOn list script history k → (node_past list script history k).phase ≡ phase.Active
  pub members : (j k : ℕ) → IsOn list script history j → IsOn list script history k
      → members_of_node list history j ≡ members_of_node list history k
  pub clocks : (j k : ℕ) → IsOn list script history j → IsOn list script history k
      → ((node_past list script history j).offset -ℤ (node_past list script history k).offset) ≤ℤ bound list

-- A run in which one node may be two-faced, whose cluster starts in slot `start`. In each slot after the start every
-- node judged the frame of each other node that sent correct.
pub record IsFacedRun (list : Medl) (script : Script) (start : ℕ) (history : History) : Type 0 where
  pub together : HoldsSince (AreTogether list script) start history
  pub correct : JudgedCorrectSince list script start history
