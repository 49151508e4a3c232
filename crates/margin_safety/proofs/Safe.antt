-- What a yes says of a run where one node counts as faulty besides.
use Rattle.std.proofs.Common.{◌≡◌, ℕ, false, List, [], ap}
use Rattle.std.specs.Prelude.{IsTrue}
use Rattle.ttp_base.specs.NodeSet.{has_node, without_node}
use Rattle.ttp_world.specs.declared.medl.Medl.{Medl}
use Rattle.ttp_world.specs.declared.script.Script.{Script}
use Rattle.ttp_world.specs.Medl.{IsValid}
use Rattle.ttp_world.specs.Script.{IsValidScript}
use Rattle.campaign.specs.Cost.{says_yes}
use Rattle.ttp_world.specs.ZerosWorld.{zeros_world}
use Rattle.clock_margins.specs.Outcomes.{outcome_beside, whom_it_costs, is_others}
use Rattle.campaign_laws.proofs.Yes.{yes-line}
use Rattle.margin_safety.proofs.Fewer.{never-split, costs-none}

-- no node was hurt, memberships were never split, and it costs no others
pub yes-harmless : (list : Medl) (script : Script) (k : ℕ) → IsValid list → IsValidScript list script
    → IsTrue (says_yes list script)
    → ((outcome_beside list script k (zeros_world list script script.slots)).hurt ≡ [])
    × ((outcome_beside list script k (zeros_world list script script.slots)).split ≡ false)
    × (is_others (whom_it_costs k (outcome_beside list script k (zeros_world list script script.slots))) ≡ false)
yes-harmless list script k valid right says =
    let unharmed = yes-line list script valid right says in
    let outcome = outcome_beside list script k (zeros_world list script script.slots) in
    let hurt = ap (λ (nodes : List ℕ). without_node nodes k) unharmed.hurt in (
      hurt,
      never-split list script k (zeros_world list script script.slots) unharmed.split,
      costs-none outcome.hurt (has_node outcome.left k) hurt,
    )
