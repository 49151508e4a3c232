-- What a history tells after a turn of a plan, of sound nodes and of lost ones.
use Rattle.safety_laws.proofs.Words.{◌≡◌, ◌≢◌, ℕ, suc, ◌+◌, ◌-◌, ◌*◌, ◌<◌, ◌≤◌, Bool, true, false, not, ◌&&◌, List, []}
use Rattle.safety_laws.proofs.Words.{◌∷◌, length, Some, refl, ap, sym, subst, ◌∙◌, ◌⊎◌, inl, inr, arith, AllByRecursion}
use Rattle.safety_laws.proofs.Words.{list_all, false≢true, not_from_false, and_from, same_Some, bytes_eq-Decides}
use Rattle.safety_laws.proofs.Words.{most_nodes, has_node, Medl, Ack, Phase, Script, is_doubt, History, ClusterStart}
use Rattle.safety_laws.proofs.Words.{is_left_phase, newest_slot, is_settled, has_left, are_same_members, is_in_among}
use Rattle.safety_laws.proofs.Words.{is_out_among, node_past, nodes-most, Change, Sending, FaultPlan, Fate, Absent}
use Rattle.safety_laws.proofs.Words.{Sound, Falling, Fallen, Listening, fate_of, is_sound_after, lost_since, IsGoodPlan}
use Rattle.safety_laws.proofs.Words.{planned_members, ledger_of, ledger-told, fallen-member, held_with, IsSoundAt}
use Rattle.safety_laws.proofs.Words.{IsFallenAt, IsByFate, sound-fate}
use Rattle.ttp_world.specs.declared.node.Ack.TheVariants as ack
use Rattle.ttp_world.specs.declared.node.Phase.TheVariants as phase
use Rattle.ttp_world.specs.Safety.{members_of_node, agree_among}
use Rattle.safety_laws.proofs.FateTells.{loss-node}
use Rattle.safety_laws.proofs.Members.{sound-member}
use Rattle.safety_laws.specs.PlannedRun.{StandsAtTurn}
use Rattle.safety_laws.proofs.GroupSets.{has_node-with_member, has_node-with_other}
use Rattle.safety_laws.proofs.PlanSteps.{told-falling, told-fallen}

-- Tests of lists.

pub all-by : {X : Type 0} (P : X → Type 0) (test : X → Bool) (xs : List X) → ((x : X) → P x → test x ≡ true)
    → AllByRecursion P xs → list_all test xs ≡ true
all-by P test [] passes all = refl
all-by P test (x ∷ xs) passes all =
    and_from (test x) (list_all test xs) (passes x all.0) (all-by P test xs passes all.1)

pub each-of : {X : Type 0} {P Q : X → Type 0} (xs : List X) → ((x : X) → P x → Q x) → AllByRecursion P xs
    → AllByRecursion Q xs
each-of [] gives all = tt
each-of (x ∷ xs) gives all = (gives x all.0, each-of xs gives all.1)

-- What a sound node holds.

held-settled : (group : List ℕ) (a : Ack) → is_doubt a ≡ false → held_with group a ≡ group
held-settled group (ack.Doubt y) settled = absurd (false≢true (sym settled))
held-settled group _ settled = refl

held-member : (group : List ℕ) (a : Ack) (j : ℕ) → j < most_nodes → has_node group j ≡ true
    → has_node (held_with group a) j ≡ true
held-member group (ack.Doubt y) j small has = has_node-with_member group y j small has
held-member group _ j small has = has

held-none : (group : List ℕ) (a : Ack) (j : ℕ) → j < most_nodes → has_node group j ≡ false
    → ((y : ℕ) → a ≡ ack.Doubt y → y ≢ j) → has_node (held_with group a) j ≡ false
held-none group (ack.Doubt y) j small none apart =
    has_node-with_other group y j small (λ same. apart y refl (sym same)) ∙ none
held-none group _ j small none apart = none

pub not-settled : (b : Bool) → not b ≡ true → b ≡ false
not-settled true is = absurd (false≢true is)
not-settled false is = refl

module _ {list : Medl} {script : Script} {start : ClusterStart} {plan : FaultPlan} {turn : ℕ} {history : History}
    (is : StandsAtTurn list script start plan turn history) where
  good : IsGoodPlan plan
  good = is.planned.follows.good

  pub newest : newest_slot history ≡ start.slot + turn
  newest = let number = is.number in omega (arith, number)

  small : (j : ℕ) → j < length list.slots → j < most_nodes
  small j node = let few = nodes-most list is.planned.valid in omega (arith, node, few)

  less : (k : ℕ) → k < length list.slots → k < plan.nodes
  less k node = subst (λ n. k < n) (sym is.planned.follows.nodes) node

  -- Sound nodes.

  abbrev pub IsSoundNode : ℕ → Type 0
  IsSoundNode k = (k < length list.slots) × (is_sound_after plan turn k ≡ true)

  pub at-sound : (k : ℕ) → IsSoundNode k → IsSoundAt list plan turn k (node_past list script history k)
  at-sound k sound =
      subst (λ (f : Fate). IsByFate list plan turn k (node_past list script history k) f)
      (sound-fate (fate_of plan turn k) sound.1) (is.holds.nodes k sound.0)

  -- those that are not in doubt hold the plan's members
  pub settled-members : (k : ℕ) → IsSoundNode k × (is_settled history k ≡ true)
      → members_of_node list history k ≡ planned_members plan turn
  settled-members k settled =
      let at = at-sound k settled.0 in
      at.group.members ∙ held-settled (planned_members plan turn) _ (not-settled _ settled.1)

  pub same-settled : (j k : ℕ) → IsSoundNode j × (is_settled history j ≡ true)
      → IsSoundNode k × (is_settled history k ≡ true) → are_same_members list history j k ≡ true
  same-settled j k of_j of_k =
      (bytes_eq-Decides (members_of_node list history j) (members_of_node list history k)).1
      (settled-members j of_j ∙ sym (settled-members k of_k))

  pub agree-settled : (nodes : List ℕ) → AllByRecursion (λ k. IsSoundNode k × (is_settled history k ≡ true)) nodes
      → agree_among list history nodes ≡ true
  agree-settled nodes all =
      all-by (λ k. IsSoundNode k × (is_settled history k ≡ true)) _ nodes
      (λ j of_j. all-by (λ k. IsSoundNode k × (is_settled history k ≡ true)) (are_same_members list history j) nodes
      (λ k of_k. same-settled j k of_j of_k) all) all

  -- and each of them holds for a member each that has had a slot since it began
  pub in-sound : (nodes : List ℕ) → AllByRecursion IsSoundNode nodes → (j : ℕ) → IsSoundNode j
      → (ledger_of plan turn j).own ≡ true → is_in_among list history nodes j ≡ true
  in-sound nodes all j of_j own =
      all-by IsSoundNode (λ k. has_node (members_of_node list history k) j) nodes (λ k of_k.
      ap (λ s. has_node s j) (at-sound k of_k).group.members
      ∙ held-member (planned_members plan turn) (node_past list script history k).ack j (small j of_j.0)
      (sound-member plan turn j good (less j of_j.0) of_j.1 own)) all

  -- Lost nodes.

  -- A node has left two rounds after it was lost, less two slots, and no sound node holds it.

  fallen-stands : (k since shown : ℕ) (change : Change) → k < length list.slots
      → fate_of plan turn k ≡ Fallen change since shown → ((node_past list script history k).phase ≡ phase.Left)
      ⊎ IsFallenAt list plan turn k since shown (node_past list script history k)
  fallen-stands k since shown change node fate =
      subst (λ (f : Fate). IsByFate list plan turn k (node_past list script history k) f) fate (is.holds.nodes k node)

  -- it leaves in its first own slot, where that is the last of a round, and else a round later
  left-fallen : (k since shown : ℕ) (change : Change) → k < length list.slots
      → fate_of plan turn k ≡ Fallen change since shown → since + 2 * plan.nodes ≤ suc (suc turn)
      → (node_past list script history k).phase ≡ phase.Left
  left-fallen k since shown change node fate late =
      elim (fallen-stands k since shown change node fate) [
        | inl left ↦ left
        | inr at ↦ let soon = at.soon in let early = at.early in absurd (omega (arith, soon, early, late))
      ]

  -- the one node that may doubt it has had a slot of its own since
  doubted-early : (j k since shown : ℕ) (change : Change) → IsSoundNode j
      → fate_of plan turn k ≡ Fallen change since shown
      → (node_past list script history j).ack ≡ ack.Doubt k → turn < since + plan.nodes
  doubted-early j k since shown change of_j fate doubt =
      let at = at-sound j of_j in
      let found = at.doubted k doubt in
      let same : (ledger_of plan turn j).base ≡ since =
      same_Some _ _ (sym (ap lost_since found.1) ∙ ap lost_since fate) in
      let near = (ledger-told plan turn j good (less j of_j.0)).near in
      omega (arith, same, near)

  out-fallen : (nodes : List ℕ) → AllByRecursion IsSoundNode nodes → (k since shown : ℕ) (change : Change)
      → k < length list.slots → fate_of plan turn k ≡ Fallen change since shown → since + plan.nodes ≤ turn
      → is_out_among list history nodes k ≡ true
  out-fallen nodes all k since shown change node fate late =
      all-by IsSoundNode (λ j. not (has_node (members_of_node list history j) k)) nodes (λ j of_j.
      let at = at-sound j of_j in
      not_from_false _ (ap (λ s. has_node s k) at.group.members
      ∙ held-none (planned_members plan turn) (node_past list script history j).ack k (small k node)
      (fallen-member plan turn k since shown change good (less k node) fate) (λ y doubt same.
      let early = doubted-early j k since shown change of_j fate (doubt ∙ ap (λ (z : ℕ). ack.Doubt z) same) in
      omega (arith, early, late)))) all

  -- a node whose fate tells an old loss has left and is out among the others
  gone-by : (nodes : List ℕ) → AllByRecursion IsSoundNode nodes → (k slot : ℕ) (fate : Fate)
      → fate_of plan turn k ≡ fate → lost_since fate ≡ Some (slot - start.slot)
      → slot + 2 * length list.slots ≤ suc (suc (start.slot + turn))
      → (has_left history k && is_out_among list history nodes k) ≡ true
  gone-by nodes all k slot Absent fate lost late = cc
  gone-by nodes all k slot Sound fate lost late = cc
  gone-by nodes all k slot (Listening since) fate lost late = cc
  gone-by nodes all k slot (Falling change since) fate lost late =
      let told = told-falling plan turn k since change good fate in
      let same = same_Some _ _ lost in
      absurd (omega (arith, same, late, told.loss.late, told.soon, is.planned.follows.nodes, good.count))
  gone-by nodes all k slot (Fallen change since shown) fate lost late =
      let told = told-fallen plan turn k since shown change good fate in
      let same = same_Some _ _ lost in
      let count = good.count in
      let over : since + 2 * plan.nodes ≤ suc (suc turn) =
      omega (arith, same, late, told.loss.late, is.planned.follows.nodes, count) in
      let node : k < length list.slots =
      subst (λ n. k < n) is.planned.follows.nodes (loss-node plan k since change good told.loss) in
      and_from (has_left history k) (is_out_among list history nodes k)
      (ap (λ (p : Phase). is_left_phase p) (left-fallen k since shown change node fate over))
      (out-fallen nodes all k since shown change node fate (omega (arith, over, count)))

  pub gone-lost : (nodes : List ℕ) → AllByRecursion IsSoundNode nodes → (k slot : ℕ)
      → lost_since (fate_of plan turn k) ≡ Some (slot - start.slot)
      → slot + 2 * length list.slots ≤ suc (suc (newest_slot history))
      → (has_left history k && is_out_among list history nodes k) ≡ true
  gone-lost nodes all k slot lost late =
      gone-by nodes all k slot (fate_of plan turn k) refl lost (omega (arith, late, newest))

  -- A node has left a round after the first own slot since it was lost.
  pub left-after : (k since shown : ℕ) (change : Change) → k < length list.slots
      → fate_of plan turn k ≡ Fallen change since shown → shown + plan.nodes ≤ turn
      → (node_past list script history k).phase ≡ phase.Left
  left-after k since shown change node fate past =
      elim (fallen-stands k since shown change node fate) [
        | inl left ↦ left
        | inr at ↦ let soon = at.soon in absurd (omega (arith, soon, past))
      ]

  -- so a sender has left a round after it was lost,
  pub left-sender : (k since shown : ℕ) → k < length list.slots → fate_of plan turn k ≡ Fallen Sending since shown
      → since + plan.nodes ≤ turn → (node_past list script history k).phase ≡ phase.Left
  left-sender k since shown node fate past =
      let at_once = (told-fallen plan turn k since shown Sending good fate).sending refl in
      left-after k since shown Sending node fate (omega (arith, at_once, past))

  -- and each lost node two rounds after, less two slots
  pub left-lost : (k since : ℕ) → k < length list.slots → lost_since (fate_of plan turn k) ≡ Some since
      → since + 2 * plan.nodes ≤ suc (suc turn) → (node_past list script history k).phase ≡ phase.Left
  left-lost k since node lost late = by (fate_of plan turn k) refl lost
    where
      by : (fate : Fate) → fate_of plan turn k ≡ fate → lost_since fate ≡ Some since
          → (node_past list script history k).phase ≡ phase.Left
      by Absent is of_loss = cc
      by Sound is of_loss = cc
      by (Listening s) is of_loss = cc
      by (Falling change s) is of_loss =
          let told = told-falling plan turn k s change good is in
          let same = same_Some _ _ of_loss in
          absurd (omega (arith, same, told.soon, good.count, late))
      by (Fallen change s shown) is of_loss =
          let same = same_Some _ _ of_loss in
          left-fallen k s shown change node is (omega (arith, same, late))
