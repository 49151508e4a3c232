-- A sound node that is not the sender of a turn, and is not lost in it, is sound as the plan says after it.
use Rattle.safety_laws.proofs.Words.{◌≡◌, ◌≢◌, ℕ, suc, ◌<◌, Bool, true, false, length, refl, ap, sym, subst, ◌∙◌, inl}
use Rattle.safety_laws.proofs.Words.{inr, arith, Medl, Script, ClusterStart, loses, SlotNumbers, Numbers, Change}
use Rattle.safety_laws.proofs.Words.{Sending, Receiving, Jumping, FaultPlan, sender, incident_at, Fate, Absent, Sound}
use Rattle.safety_laws.proofs.Words.{Falling, Fallen, Listening, fate_of, is_sound_fate, is_sound_after, is_good_slot}
use Rattle.safety_laws.proofs.Words.{is_first_slot, IsFalling, strikes, loss-sending, next_past, IsFallingAt}
use Rattle.safety_laws.proofs.Words.{IsFallenAt, IsTurn}
use Rattle.safety_laws.proofs.Arrivals.{sound-alone, silent-absent, silent-listening, silent-fallen, falling-acts}
use Rattle.safety_laws.proofs.PlanSteps.{IsStruck, struck-known, sound-stays, wrong-slot}
use Rattle.safety_laws.proofs.PlanSteps.{falling-shown, struck-shown, first-shown, told-falling}
use Rattle.safety_laws.proofs.Receivers.{receives-good, receives-silence, receives-none}
use Rattle.safety_laws.proofs.Receivers.{receives-jumped, receives-deaf}
use Rattle.safety_laws.proofs.PlanTurns.{NextSound, SendsNone, SendsOne, slot_of, slot_number, none-sends, good_plan}

module _ {list : Medl} {script : Script} {start : ClusterStart} {plan : FaultPlan} {turn : ℕ} {new : SlotNumbers}
    {numbers : Numbers} (t : IsTurn list script start plan turn new numbers) (k : ℕ) (node : k < length list.slots)
    (other : sender plan (suc turn) ≢ k) (sound : fate_of plan turn k ≡ Sound)
    (stays : is_sound_after plan (suc turn) k ≡ true) where
  -- the sender is lost in its own slot
  by-struck : fate_of plan turn (sender plan (suc turn)) ≡ Sound → IsStruck plan (suc turn) (sender plan (suc turn))
      → NextSound t k
  by-struck sends struck = by struck.incident.change refl
    where
      shown : fate_of plan (suc turn) (sender plan (suc turn)) ≡ Fallen struck.incident.change (suc turn) (suc turn)
      shown = struck-shown plan turn (sender plan (suc turn)) (good_plan t) struck refl

      wrong : is_good_slot plan (suc turn) ≡ false
      wrong = ap is_sound_fate shown

      first : is_first_slot plan (suc turn) ≡ true
      first = first-shown plan (suc turn) (suc turn) struck.incident.change shown

      by : (change : Change) → struck.incident.change ≡ change → NextSound t k
      by Sending how =
          let hearing = t.planned.follows.hearing (suc turn) t.within in
          receives-none t k node other sound wrong first (sound-alone t sends)
          (ap (λ n. loses script (sender plan (suc turn)) n k) (slot_number t)
          ∙ hearing.unheard k struck.incident
          (subst (λ n. k < n) (sym t.planned.follows.nodes) node) struck.found how stays)
      by Receiving how =
          absurd ((((good_plan t).losses turn struck.incident struck.found).receiving how).0 (sym struck.node))
      by Jumping how =
          receives-jumped t k node other sound wrong first (sound-alone t sends) (suc turn) stays
          (shown ∙ ap (λ (c : Change). Fallen c (suc turn) (suc turn)) how)

  -- it is the sender's first own slot since it was lost
  by-falling : (change : Change) (since : ℕ) → fate_of plan turn (sender plan (suc turn)) ≡ Falling change since
      → NextSound t k
  by-falling change since falls = elim (falling-acts t change since falls) [
    | inl left ↦ receives-silence t k node other sound wrong (none-sends t left.1)
    | inr sends ↦ by change refl sends
  ]
    where
      told : IsFalling plan turn (sender plan (suc turn)) change since
      told = told-falling plan turn (sender plan (suc turn)) since change (good_plan t) falls

      shown : fate_of plan (suc turn) (sender plan (suc turn)) ≡ Fallen change since (suc turn)
      shown = falling-shown plan turn (sender plan (suc turn)) since change (good_plan t) refl falls

      wrong : is_good_slot plan (suc turn) ≡ false
      wrong = ap is_sound_fate shown

      first : is_first_slot plan (suc turn) ≡ true
      first = first-shown plan (suc turn) since change shown

      apart : sender plan since ≢ sender plan (suc turn)
      apart = let from = told.from in told.unshown since (omega arith) from

      by : (c : Change) → change ≡ c → ((SendsOne t) × (IsFallingAt list plan turn (sender plan (suc turn)) change since
          (slot_of list script new numbers (sender plan (suc turn))).past) × (IsFallenAt list plan (suc turn)
          (sender plan (suc turn)) since (suc turn)
          (next_past (slot_of list script new numbers (sender plan (suc turn)))))) → NextSound t k
      by Sending how sends =
          absurd (apart (loss-sending plan (sender plan (suc turn)) since change (good_plan t) told.loss how))
      by Jumping how sends =
          receives-jumped t k node other sound wrong first sends.0 since stays
          (shown ∙ ap (λ (c : Change). Fallen c since (suc turn)) how)
      by Receiving how sends =
          receives-deaf t k node other sound wrong first sends.0 since (record {
            falling = falls ∙ ap (λ (c : Change). Falling c since) how;
            shown = shown ∙ ap (λ (c : Change). Fallen c since (suc turn)) how;
          })
          (subst (λ (c : Change). IsFallingAt list plan turn (sender plan (suc turn)) c since
          (slot_of list script new numbers (sender plan (suc turn))).past) how sends.1) apart

  -- nobody sends, the sender being none that is sound
  by-silence : {fate : Fate} → fate_of plan turn (sender plan (suc turn)) ≡ fate → is_sound_fate fate ≡ false
      → SendsNone t
      → NextSound t k
  by-silence is unsound none =
      receives-silence t k node other sound (wrong-slot plan turn (good_plan t) (ap is_sound_fate is ∙ unsound)) none

  by-fate : (fate : Fate) → fate_of plan turn (sender plan (suc turn)) ≡ fate → NextSound t k
  by-fate Absent is = by-silence is refl (silent-absent t is)
  by-fate (Listening since) is = by-silence is refl (silent-listening t since is)
  by-fate (Fallen change since shown) is = by-silence is refl (silent-fallen t change since shown is)
  by-fate (Falling change since) is = by-falling change since is
  by-fate Sound is = by (strikes (incident_at plan (suc turn)) (sender plan (suc turn))) refl
    where
      by : (hit : Bool) → strikes (incident_at plan (suc turn)) (sender plan (suc turn)) ≡ hit → NextSound t k
      by true hit = by-struck is (struck-known plan (suc turn) (sender plan (suc turn)) hit)
      by false missed =
          receives-good t k node other sound
          (ap is_sound_fate (sound-stays plan turn (sender plan (suc turn)) (good_plan t) missed is)) is stays

  pub sound-next : NextSound t k
  sound-next = by-fate (fate_of plan turn (sender plan (suc turn))) refl
