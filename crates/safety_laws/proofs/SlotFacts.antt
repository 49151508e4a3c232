-- A slot of the plan of the single-fault hypothesis: who hears its frame, and who is sound before it.
use Rattle.safety_laws.proofs.PlanWords.{ap, arith, false, length, refl, subst, suc, sym, true, ℕ, ◌+◌, ◌<◌, ◌∙◌, ◌≡◌}
use Rattle.safety_laws.proofs.PlanWords.{and_from, and_parts, not-true, not_from_false}
use Rattle.safety_laws.proofs.PlanWords.{or_parts, has_node, ClusterStart}
use Rattle.safety_laws.proofs.PlanWords.{expected_sender, loses, is_ever_on, Medl}
use Rattle.safety_laws.proofs.PlanWords.{Script, is_sound_after, IsHeardByPlan}
use Rattle.safety_laws.proofs.PlanWords.{FaultPlan, fault_plan_of, sender}
use Rattle.safety_laws.proofs.FaultySets.{IsSingleFault, fates-known, faulty-next, faulty_before}
use Rattle.safety_laws.proofs.PlanHearing.{IsClear, clear-still, clear-after, clear-loses}
use Rattle.safety_laws.proofs.PlanHearing.{sender-less, deaf-in, jumps-in}
use Rattle.safety_laws.proofs.PlanHearing.{sender-same, unheard-in}
use Rattle.safety_laws.proofs.Returns.{never-listens}

module _ {list : Medl} {script : Script} {start : ClusterStart} (run : IsSingleFault list script start) where
  abbrev plan : FaultPlan
  plan = fault_plan_of list script start

  -- one that is sound after a slot
  sound-clear : (turn slot k : ℕ) → slot ≡ start.slot + turn → slot < script.slots → k < length list.slots
      → is_sound_after plan turn k ≡ true → IsClear list script start (faulty_before list script start slot) slot k
  sound-clear turn slot k is within less sound =
      let parts = and_parts _ _ (sym (fates-known run turn slot k is within less).sound ∙ sound) in
      let clear = or_parts _ _ (sym (faulty-next list script start slot k) ∙ not-true _ parts.1) in
      clear-after run.course slot k parts.0 clear.0 clear.1

  -- and one that was sound before it
  pub sound-before : (turn slot k : ℕ) → slot ≡ start.slot + turn → slot < script.slots → k < length list.slots
      → is_ever_on script k ≡ true → has_node (faulty_before list script start (suc slot)) k ≡ false
      → is_sound_after (fault_plan_of list script start) turn k ≡ true
  sound-before turn slot k is within less ever none =
      (fates-known run turn slot k is within less).sound ∙ and_from _ _ ever (not_from_false _ none)

  pub heard-slot : (turn : ℕ) → start.slot + turn < script.slots
      → IsHeardByPlan script start (fault_plan_of list script start) turn
  heard-slot turn within =
      let slot = start.slot + turn in
      let course = run.course in
      let e = expected_sender list start slot in
      let same : e ≡ sender plan turn = sender-same course slot turn refl within in
      let clear : (r : ℕ) → r < length list.slots → is_sound_after plan turn r ≡ true
      → IsClear list script start (faulty_before list script start slot) slot r =
      λ r less sound. sound-clear turn slot r refl within less sound in
      record {
        heard = λ r less other good sound.
            subst (λ e. loses script e slot r ≡ false) same
            (clear-loses course slot r (omega arith) within less (λ at. other (at ∙ same))
            (clear e (sender-less course slot) (ap (is_sound_after plan turn) same ∙ good)) (clear r less sound));
        listens = λ r since less good fate. absurd (never-listens plan turn r since refl fate);
        unheard = λ r incident less found sending sound.
            unheard-in course slot turn refl within incident found r less sending (clear r less sound);
        deaf = λ incident found receiving. deaf-in course slot turn refl within incident found receiving;
        still = λ k less sound. clear-still course slot k (omega arith) less (clear k less sound);
        jumps = λ incident found jumping. jumps-in course slot turn refl within incident found jumping;
      }
