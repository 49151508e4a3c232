-- What was seen of a run so far.
use Rattle.std.specs.Prelude.{◌≡◌, ℕ, ◌<◌, Bool, false, List, length, get_or, None}
use Rattle.ttp_base.specs.NodeSet.{has_node}
use Rattle.ttp_world.specs.declared.medl.Medl.{Medl}
use Rattle.ttp_world.specs.declared.node.Entry.{Entry}
use Rattle.ttp_world.specs.declared.node.Entry.TheVariants as entry
use Rattle.ttp_world.specs.declared.script.Script.{Script}
use Rattle.ttp_world.specs.Returning.{is_sound}
use Rattle.campaign.specs.Cost.{faulty_by_test, newest_leave, hurt_nodes, split_span}
use Rattle.ttp_world.specs.ZerosWorld.{zeros_world}
use Rattle.run_costs.specs.declared.seen_costs.seen.SeenCost.{SeenCost}
use Rattle.run_costs.specs.FaultyAt.{IsFaultyAt}

-- a node left in a slot after which it was correct
abbrev pub is_hurt_by : Entry → Bool → Bool
is_hurt_by (entry.Left reason peer) is_correct = is_correct
is_hurt_by _ is_correct = false

-- these nodes are the correct ones after a slot
abbrev pub AreSound : Medl → Script → ℕ → List ℕ → Type 0
AreSound list script slot nodes =
    (k : ℕ) → k < length list.slots → has_node nodes k ≡ is_sound script (faulty_by_test list script slot) slot k

-- in the first slots of the run in which frames carry zeros, so many
pub record IsSeenOf (list : Medl) (script : Script) (slots : ℕ) (seen : SeenCost) : Type 0 where
  pub faulty : IsFaultyAt list script slots seen.faulty
  pub left : (k : ℕ) → k < length list.slots
      → get_or seen.left k None ≡ newest_leave (zeros_world list script slots) k
  pub hurt : seen.hurt ≡ hurt_nodes list script (zeros_world list script slots)
  pub split : seen.split ≡ split_span list script (zeros_world list script slots)
