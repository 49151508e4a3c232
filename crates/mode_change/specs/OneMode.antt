-- A group of nodes that runs one mode.
--
-- A group of nodes is a test of their numbers.
use Rattle.std.specs.Prelude.{◌≡◌, ℕ, Bool, IsSome}
use Rattle.ttp_world.specs.declared.medl.Medl.{Medl}
use Rattle.ttp_world.specs.declared.script.Script.{Script}
use Rattle.ttp_world.specs.Diary.{History}
use Rattle.precision.specs.Together.{IsIn}
use Rattle.mode_change.specs.Modes.{mode_of, next_of}

-- after a history each node of a group runs a mode, and all the same
pub record RunsOneMode (list : Medl) (script : Script) (group : ℕ → Bool) (history : History) : Type 0 where
  -- each node of the group knows which mode it runs
  pub knows : (k : ℕ) → IsIn list group k → IsSome (mode_of list script history k)
  -- any two nodes of the group run one mode, and have one next mode, or none
  pub mode : (j k : ℕ) → IsIn list group j → IsIn list group k
      → mode_of list script history j ≡ mode_of list script history k
  pub next : (j k : ℕ) → IsIn list group j → IsIn list group k
      → next_of list script history j ≡ next_of list script history k
