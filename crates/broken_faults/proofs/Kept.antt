-- Where no node is armed, a node that is faulty stays so, and the rules on faults are those of the hypothesis.
use Rattle.std.proofs.Common.{arith, ◌≡◌, ℕ, zero, suc, ◌+◌, ◌-◌, ◌*◌, false, cond, not, ◌&&◌, List, [], ◌∷◌, ◌++◌, map}
use Rattle.std.proofs.Common.{length, reverse, Some, refl, ap, ◌∙◌}
use Rattle.std.proofs.Math.Bool.{and-false}
use Rattle.std.proofs.lemmas.Bool.{or_parts}
use Rattle.std.specs.List.{filter, list_any, find}
use Rattle.ttp_base.specs.NodeSet.{below, has_node}
use Rattle.ttp_world.specs.declared.medl.Medl.{Medl}
use Rattle.ttp_world.specs.declared.script.Event.{Event}
use Rattle.ttp_world.specs.declared.script.Event.TheVariants as event
use Rattle.ttp_world.specs.declared.script.Script.{Script}
use Rattle.ttp_world.specs.Hypothesis.{ClusterStart, FaultyNode, numbers_of, loss_in, is_breaking, faulty_nodes_in}
use Rattle.ttp_world.specs.Hypothesis.{faulty_nodes_before, loss_broken, distance_broken, sync_broken, first_too_early}
use Rattle.ttp_world.specs.Hypothesis.{has_four_steady, slots_since_start}
use Rattle.ttp_world.specs.Returning.{is_arm, has_arm, faulty_since, faulty_then, four_rounds, slots_before, faulty_at}
use Rattle.ttp_world.specs.Returning.{joinings, back_loss_broken, back_distance_broken, back_sync_broken}
use Rattle.ttp_world.specs.Script.{arms, is_armed}

unarmed-one : (k slot : ℕ) (e : Event) → is_arm e ≡ false → arms k slot e ≡ false
unarmed-one k slot (event.Arm node at) none = absurd (grind arith)
unarmed-one k slot e none = refl

unarmed : (k slot : ℕ) (events : List Event) → list_any is_arm events ≡ false → list_any (arms k slot) events ≡ false
unarmed k slot [] none = refl
unarmed k slot (e ∷ events) none =
    let parts = or_parts (is_arm e) (list_any is_arm events) none in
    rw (unarmed-one k slot e parts.0, unarmed k slot events parts.1) refl

-- nobody is forgiven
stay-all : (script : Script) (then : List ℕ) (slot : ℕ) (faulty : List FaultyNode) → has_arm script ≡ false
    → filter (λ (f : FaultyNode). not (has_node then f.node && is_armed script f.node slot)) faulty ≡ faulty
stay-all script then slot [] none = refl
stay-all script then slot (f ∷ faulty) none =
    rw (unarmed f.node slot script.events none, and-false (has_node then f.node))
    (ap (λ rest. f ∷ rest) (stay-all script then slot faulty none))

stayed-kept : (list : Medl) (script : Script) (start : ClusterStart) (slot : ℕ) → has_arm script ≡ false
    → faulty_at list script start slot ≡ faulty_since (slots_before list script start slot)
stayed-kept list script start slot none =
    let before = slots_before list script start slot in
    stay-all script (faulty_then list before) (slot - four_rounds list) (faulty_since before) none

since-kept : (list : Medl) (script : Script) (start : ClusterStart) (slot : ℕ) → has_arm script ≡ false
    → faulty_since (slots_before list script start slot) ≡ faulty_nodes_before list script start slot
since-kept list script start zero none = refl
since-kept list script start (suc slot) none =
    ap (λ stayed. faulty_nodes_in list script start slot stayed ++ stayed)
    (stayed-kept list script start slot none ∙ since-kept list script start slot none)

at-kept : (list : Medl) (script : Script) (start : ClusterStart) (slot : ℕ) → has_arm script ≡ false
    → faulty_at list script start slot ≡ faulty_nodes_before list script start slot
at-kept list script start slot none =
    stayed-kept list script start slot none ∙ since-kept list script start slot none

joined-kept : (list : Medl) (script : Script) (start : ClusterStart) (slot : ℕ) → has_arm script ≡ false
    → joinings (slots_before list script start slot) ≡ faulty_nodes_before list script start slot
joined-kept list script start zero none = refl
joined-kept list script start (suc slot) none =
    (λ i. faulty_nodes_in list script start slot (at-kept list script start slot none i)
    ++ joined-kept list script start slot none i)

pub lost : (list : Medl) (script : Script) (start : ClusterStart) → has_arm script ≡ false
    → back_loss_broken list script start ≡ loss_broken list script start
lost list script start none =
    (λ i. find (λ slot. is_breaking
    (loss_in list script start (numbers_of (at-kept list script start slot none i)) slot))
    (below script.slots))

pub early : (list : Medl) (script : Script) (start : ClusterStart) → has_arm script ≡ false
    → back_distance_broken list script start ≡ distance_broken list script start
early list script start none =
    ap (λ (faults : List FaultyNode). first_too_early (2 * length list.slots) (start.slot + 2 * length list.slots)
    (reverse (map (λ f. f.slot) faults))) (joined-kept list script start script.slots none)

pub few : (list : Medl) (script : Script) (start : ClusterStart) → has_arm script ≡ false
    → back_sync_broken list script start ≡ sync_broken list script start
few list script start none =
    (λ i. cond (has_four_steady list script (since-kept list script start start.slot none i))
    (find (λ slot. not (has_four_steady list script (since-kept list script start (suc slot) none i)))
    (slots_since_start script start)) (Some start.slot))
