-- What the sender of a turn does by its fate, and what comes to each other node.
use Rattle.safety_laws.proofs.Words.{◌≡◌, ℕ, suc, ◌<◌, true, false, List, [], length, refl, ap, sym, subst, ◌∙◌, ◌⊎◌}
use Rattle.safety_laws.proofs.Words.{inl, inr, arith, with_node, Medl, Script, next_place, ClusterStart, loses}
use Rattle.safety_laws.proofs.Words.{is_within_window, SlotNumbers, Numbers, node_past, slot_after, deviation_in, world}
use Rattle.safety_laws.proofs.Words.{Change, FaultPlan, sender, is_armed_by, Fate, Absent, Sound, Falling, Fallen}
use Rattle.safety_laws.proofs.Words.{Listening, fate_of, is_lost, planned_members, planned_place, held_with}
use Rattle.safety_laws.proofs.Words.{frames_made, next_past, HearsMembers, IsByFate, IsFallingAt, IsFallenAt, IsTurn}
use Rattle.ttp_world.specs.declared.node.Phase.TheVariants as phase
use Rattle.safety_laws.proofs.Idle.{idle-off, idle-left}
use Rattle.safety_laws.proofs.Listening.{frames_made-listening}
use Rattle.safety_laws.proofs.OneSender.{members-alone}
use Rattle.safety_laws.proofs.PlanTurns.{IsSoundOwner, sound-sends, falling-own, fallen-own, SendsNone, SendsOne}
use Rattle.safety_laws.proofs.PlanTurns.{slot_of, e-node, has-turn, absent-off, armed-planned, unarmed-falling}
use Rattle.safety_laws.proofs.PlanTurns.{good_plan, listens-still, silent-left, none-sends, sends-alone}
use Rattle.safety_laws.proofs.PlanSteps.{told-falling}

module _ {list : Medl} {script : Script} {start : ClusterStart} {plan : FaultPlan} {turn : ℕ} {new : SlotNumbers}
    {numbers : Numbers} (t : IsTurn list script start plan turn new numbers) where
  -- what a node is before the turn
  pub at-fate : (k : ℕ) (fate : Fate) → k < length list.slots → fate_of plan turn k ≡ fate
      → IsByFate list plan turn k (node_past list script (world list script numbers) k) fate
  at-fate k fate node is =
      subst (λ (f : Fate). IsByFate list plan turn k (node_past list script (world list script numbers) k) f) is
      (t.before.nodes k node)

  -- A sound sender.

  module _ (sound : fate_of plan turn (sender plan (suc turn)) ≡ Sound) where
    pub sound-owner : IsSoundOwner plan turn (slot_of list script new numbers (sender plan (suc turn)))
    sound-owner =
        let e = sender plan (suc turn) in
        let node = e-node t in
        let at = at-fate e Sound node sound in
        record {
          good = good_plan t;
          nodes = t.planned.follows.nodes;
          within = let slots = t.planned.follows.slots in let inside = t.within in omega (arith, slots, inside);
          own = has-turn t e node at.phase at.place refl;
          at = at;
          owner = refl;
        }

    pub sound-alone : SendsOne t
    sound-alone =
        let may = sound-sends sound-owner in
        sends-alone t sound-owner.own may

    -- it sends the plan's members and itself
    pub sound-members : (slot_of list script new numbers (sender plan (suc turn))).past.members
        ≡ planned_members plan turn
    sound-members =
        sound-owner.at.group.members ∙ ap (held_with (planned_members plan turn)) (sound-sends sound-owner).closed

    pub hears-planned : (k : ℕ) → (slot_of list script new numbers k).past.place ≡ planned_place list plan turn
        → loses script (sender plan (suc turn)) (length (world list script numbers)) k ≡ false → is_within_window list
        (deviation_in (slot_after list script (world list script numbers)) k (sender plan (suc turn))) ≡ true
        → HearsMembers (slot_of list script new numbers k) (sender plan (suc turn))
        (with_node (planned_members plan turn) (sender plan (suc turn)))
    hears-planned k place kept within =
        let e = sender plan (suc turn) in
        subst (λ (members : List ℕ). HearsMembers (slot_of list script new numbers k) e (with_node members e))
        sound-members (members-alone k sound-alone kept (ap (next_place list) (sound-owner.at.place ∙ sym place))
        within)

  -- A sender that is absent, or has had its first slot since it was lost, is silent.

  pub silent-absent : fate_of plan turn (sender plan (suc turn)) ≡ Absent → SendsNone t
  silent-absent is =
      let e = sender plan (suc turn) in
      let node = e-node t in
      none-sends t (idle-off (slot_of list script new numbers e) (at-fate e Absent node is) (absent-off t e node is)).1

  pub silent-listening : (since : ℕ) → fate_of plan turn (sender plan (suc turn)) ≡ Listening since → SendsNone t
  silent-listening since is =
      let e = sender plan (suc turn) in
      let node = e-node t in
      none-sends t (frames_made-listening (slot_of list script new numbers e)
      (listens-still t e node since is (at-fate e (Listening since) node is)).listens)

  -- it has left by then, or leaves
  fallen-acts : (change : Change) (since shown : ℕ)
      → fate_of plan turn (sender plan (suc turn)) ≡ Fallen change since shown →
      let x = slot_of list script new numbers (sender plan (suc turn)) in
      (x.past.phase ≡ phase.Left) ⊎ (((next_past x).phase ≡ phase.Left) × (frames_made x ≡ []))
  fallen-acts change since shown is =
      let e = sender plan (suc turn) in
      let node = e-node t in
      let x = slot_of list script new numbers e in
      elim (at-fate e (Fallen change since shown) node is) [
        | inl left ↦ inl left
        | inr at ↦ inr (fallen-own plan turn x (good_plan t) (has-turn t e node at.phase at.place refl) since shown at)
      ]

  pub fallen-leaves : (change : Change) (since shown : ℕ)
      → fate_of plan turn (sender plan (suc turn)) ≡ Fallen change since shown
      → is_armed_by plan (suc turn) (sender plan (suc turn)) ≡ false
      → (next_past (slot_of list script new numbers (sender plan (suc turn)))).phase ≡ phase.Left
  fallen-leaves change since shown is unarmed =
      let e = sender plan (suc turn) in
      let node = e-node t in
      let x = slot_of list script new numbers e in
      elim (fallen-acts change since shown is) [
        | inl left ↦ (idle-left x left (armed-planned t e node (ap is_lost is) ∙ unarmed)).0
        | inr leaves ↦ leaves.0
      ]

  -- and sends nothing, armed or not
  pub silent-fallen : (change : Change) (since shown : ℕ)
      → fate_of plan turn (sender plan (suc turn)) ≡ Fallen change since shown → SendsNone t
  silent-fallen change since shown is =
      let e = sender plan (suc turn) in
      let node = e-node t in
      let x = slot_of list script new numbers e in
      none-sends t (elim (fallen-acts change since shown is) [
        | inl left ↦ silent-left t e node left
        | inr leaves ↦ leaves.1
      ])

  -- One that was lost, and has its first slot since then, has left, or leaves, or sends what it holds.
  pub falling-acts : (change : Change) (since : ℕ) → fate_of plan turn (sender plan (suc turn)) ≡ Falling change since →
      let x = slot_of list script new numbers (sender plan (suc turn)) in
      (((next_past x).phase ≡ phase.Left) × (frames_made x ≡ [])) ⊎ ((SendsOne t)
      × (IsFallingAt list plan turn (sender plan (suc turn)) change since x.past)
      × (IsFallenAt list plan (suc turn) (sender plan (suc turn)) since (suc turn) (next_past x)))
  falling-acts change since is =
      let e = sender plan (suc turn) in
      let node = e-node t in
      let x = slot_of list script new numbers e in
      elim (at-fate e (Falling change since) node is) [
        | inl left ↦ inl (idle-left x left.0 (unarmed-falling t e node change since is))
        | inr at ↦
            let own = has-turn t e node at.phase at.place refl in
            let told = told-falling plan turn e since change (good_plan t) is in
            elim (falling-own plan turn x (good_plan t) own change since told refl at) [
              | inl left ↦ inl left
              | inr sends ↦ inr (sends-alone t own sends.0, at, sends.1)
            ]
      ]
