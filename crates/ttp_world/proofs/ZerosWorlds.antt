-- The run in which frames carry zeros: how long it is, and that each message is as long as the list says.
use Rattle.ttp_world.proofs.Words.{◌≡◌, ℕ, zero, suc, ◌+◌, ◌<◌, List, length, Option, Some, refl, ap, sym, ◌∙◌, arith}
use Rattle.ttp_world.proofs.Words.{unwrap_or, replicate, length-replicate, get_or-map-range_with_len}
use Rattle.ttp_world.proofs.Words.{length-map-range_with_len, Medl, Chosen, Script, plan_at}
use Rattle.std.proofs.Common.{add-one}
use Rattle.std.specs.List.{slice_get}
use Rattle.ttp_world.specs.declared.medl.SlotPlan.{SlotPlan}
use Rattle.ttp_world.specs.Medl.{no_plan}
use Rattle.ttp_world.specs.Outgoing.{nothing_chosen}
use Rattle.ttp_world.specs.World.{chosen_of, step}
use Rattle.ttp_world.specs.ZerosWorld.{zeros_chosen, all_zeros, zeros_world}

pub length-all_zeros : (list : Medl) → length (all_zeros list) ≡ length list.slots
length-all_zeros list = length-map-range_with_len (zeros_chosen list) 0 (length list.slots)

-- as many zeros as the slot's payload are message 0 of its node
pub zeros_chosen-plan : (list : Medl) (k : ℕ) (plan : SlotPlan) (zeros : List ℕ) → slice_get list.slots k ≡ Some plan
    → zeros ≡ replicate plan.payload 0 → record { number = 0; payload = zeros } ≡ zeros_chosen list k
zeros_chosen-plan list k plan zeros at are =
    let same = ap (λ (found : Option SlotPlan). (unwrap_or found no_plan).payload) at in
    λ i. record { number = 0; payload = (are ∙ sym (ap (λ (n : ℕ). replicate n 0) same)) i }

-- message 0 of a node is as long as the list says
pub zeros-sizes : (list : Medl) (k : ℕ) → k < length list.slots
    → length (chosen_of (all_zeros list) k).payload ≡ (plan_at list k).payload
zeros-sizes list k node =
    ap (λ (c : Chosen). length c.payload)
    (get_or-map-range_with_len (zeros_chosen list) 0 (length list.slots) k k nothing_chosen node (omega arith))
    ∙ length-replicate (plan_at list k).payload 0

pub length-zeros_world : (list : Medl) (script : Script) (slots : ℕ) → length (zeros_world list script slots) ≡ slots
length-zeros_world list script zero = refl
length-zeros_world list script (suc slots) = ap suc (length-zeros_world list script slots)

-- one slot more, as code counts it
pub zeros_world-more : (list : Medl) (script : Script) (slot : ℕ)
    → zeros_world list script (slot + 1) ≡ step list script (zeros_world list script slot) (all_zeros list)
zeros_world-more list script slot = ap (zeros_world list script) (add-one slot)
