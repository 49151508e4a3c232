-- A slot of the plan: who hears its frame, and who is sound before it.
use Rattle.safety_laws.proofs.BackWords.{◌≡◌, ◌≢◌, ℕ, suc, ◌+◌, ◌<◌, ◌≤◌, true, false}
use Rattle.safety_laws.proofs.BackWords.{length, Some, refl, ap, subst, ◌∙◌, inl}
use Rattle.safety_laws.proofs.BackWords.{inr, arith, both_ways, cases_lt, has_node, Medl, Script, ClusterStart, loses}
use Rattle.safety_laws.proofs.BackWords.{expected_sender, four_rounds, is_ever_on}
use Rattle.safety_laws.proofs.BackWords.{has_jump, Incident, FaultPlan, sender}
use Rattle.safety_laws.proofs.BackWords.{incident_at, fate_of, is_sound_after, is_good_slot}
use Rattle.safety_laws.proofs.BackWords.{Fate, Listening, clear-loses}
use Rattle.safety_laws.proofs.BackWords.{incident-made, sender-less, sender-same, back_plan_of}
use Rattle.safety_laws.specs.Plan.{Sending}
use Rattle.safety_laws.specs.Fates.{is_sound_fate}
use Rattle.safety_laws.specs.Kept.{IsHeardByPlan}
use Rattle.safety_laws.proofs.PlanHearing.{IsMadeIn, clear-still, deaf-in, jumps-in}
use Rattle.safety_laws.proofs.PlanHearing.{unheard-in}
use Rattle.safety_laws.proofs.Arms.{arm-quiet, arm-stays}
use Rattle.safety_laws.proofs.BackHearing.{near-hears, near-heard, near-same}
use Rattle.safety_laws.proofs.Entries.{entry-of}
use Rattle.safety_laws.proofs.EventLines.{alone-still}
use Rattle.safety_laws.proofs.BackRuns.{IsBackRun}
use Rattle.safety_laws.proofs.Sounds.{IsNearArm, Soundly, BeingClear, NearArm, sound-how, listens-near}
use Rattle.safety_laws.proofs.Standing.{Standing, Clear, LostSince, ArmedSince, standing, lost-in}
use Rattle.safety_laws.proofs.Walk.{at}

listens-good : (plan : FaultPlan) (turn r since : ℕ) → fate_of plan turn r ≡ Listening since → r ≡ sender plan turn
    → is_good_slot plan turn ≡ true → ⊥
listens-good plan turn r since fate same good =
    both_ways _ (ap is_sound_fate fate) (ap (is_sound_after plan turn) same ∙ good)

module _ {list : Medl} {script : Script} {start : ClusterStart} (run : IsBackRun list script start) where
  abbrev plan : FaultPlan
  plan = back_plan_of list script start

  abbrev IsSound : ℕ → ℕ → Type 0
  IsSound slot k = Soundly list script start slot k

  -- the node that is made faulty is far from every arm line
  made-far : (slot k : ℕ) (incident : Incident) → slot < script.slots
      → IsMadeIn list script start (at list script start slot) slot incident → IsNearArm list script start slot k → ⊥
  made-far slot k incident within is near =
      let quiet = arm-quiet near.is slot within (omega (arith, near.from, run.course.valid.count)) near.to in
      both_ways _ (ap (λ ks. has_node ks incident.node) quiet) is.has

  still-by : (slot r : ℕ) → start.slot ≤ slot → r < length list.slots → IsSound slot r → has_jump script r slot ≡ false
  still-by slot r from less (BeingClear clear) = clear-still run.course slot r from less clear
  still-by slot r from less (NearArm near entered) =
      alone-still list script r near.arm slot near.from near.to near.is.alone

  heard-both : (slot r : ℕ) → start.slot ≤ slot → slot < script.slots → r < length list.slots
      → r ≢ expected_sender list start slot → IsSound slot (expected_sender list start slot) → IsSound slot r
      → loses script (expected_sender list start slot) slot r ≡ false
  heard-both slot r from within less other (BeingClear sends) (BeingClear hears) =
      clear-loses run.course slot r from within less other sends hears
  heard-both slot r from within less other (BeingClear sends) (NearArm near entered) =
      near-hears run slot r from within sends near
  heard-both slot r from within less other (NearArm near entered) (BeingClear hears) =
      near-heard run slot r from within less near hears
  heard-both slot r from within less other (NearArm near entered) (NearArm mine too) =
      absurd (other (near-same list script start slot r (expected_sender list start slot) mine near))

  -- one that listens is not the sender of a good slot
  listens-heard : (slot r : ℕ) → start.slot ≤ slot → slot < script.slots → r ≢ expected_sender list start slot
      → IsSound slot (expected_sender list start slot) → IsNearArm list script start slot r
      → loses script (expected_sender list start slot) slot r ≡ false
  listens-heard slot r from within other (BeingClear sends) near = near-hears run slot r from within sends near
  listens-heard slot r from within other (NearArm near entered) mine =
      absurd (other (near-same list script start slot r (expected_sender list start slot) mine near))

  pub back-heard : (turn : ℕ) → start.slot + turn < script.slots
      → IsHeardByPlan script start (back_plan_of list script start) turn
  back-heard turn within =
      let slot = start.slot + turn in
      let course = run.course in
      let e = expected_sender list start slot in
      let same : e ≡ sender plan turn = sender-same course slot turn refl within in
      let from : start.slot ≤ start.slot + turn = omega arith in
      let how : (r : ℕ) → r < length list.slots → is_sound_after plan turn r ≡ true → IsSound slot r =
      λ r less sound. sound-how run turn slot r refl within less sound in
      let sends : is_good_slot plan turn ≡ true → IsSound slot e =
      λ good. how e (sender-less course slot) (ap (is_sound_after plan turn) same ∙ good) in
      record {
        heard = λ r less other good sound.
            subst (λ e. loses script e slot r ≡ false) same
            (heard-both slot r from within less (λ at. other (at ∙ same)) (sends good) (how r less sound));
        listens = λ r since less good fate.
            subst (λ e. loses script e slot r ≡ false) same
            (listens-heard slot r from within (λ at. listens-good plan turn r since fate (at ∙ same) good) (sends good)
            (listens-near run turn slot r since refl within less fate));
        unheard = λ r incident less found sending sound.
            unheard turn slot r incident refl within less found sending (how r less sound);
        deaf = λ incident found receiving. deaf-in course slot turn refl within incident found receiving;
        still = λ k less sound. still-by slot k from less (how k less sound);
        jumps = λ incident found jumping. jumps-in course slot turn refl within incident found jumping;
      }
    where
      unheard : (turn slot r : ℕ) (incident : Incident) → slot ≡ start.slot + turn → slot < script.slots
          → r < length list.slots → incident_at plan turn ≡ Some incident → incident.change ≡ Sending → IsSound slot r
          → loses script (sender plan turn) slot r ≡ true
      unheard turn slot r incident now within less found sending (BeingClear clear) =
          unheard-in run.course slot turn now within incident found r less sending clear
      unheard turn slot r incident now within less found sending (NearArm near entered) =
          absurd (made-far slot r incident within (incident-made run.course slot turn now within incident found) near)

  -- a node that is not faulty at the beginning of the next slot is sound: it was not faulty, or is forgiven
  pub sound-earlier : (turn slot k : ℕ) → slot ≡ start.slot + turn → suc slot < script.slots → k < length list.slots
      → is_ever_on script k ≡ true → has_node (at list script start (suc slot)) k ≡ false
      → is_sound_after (back_plan_of list script start) turn k ≡ true
  sound-earlier turn slot k now within less ever out =
      by (standing run turn slot k now (omega arith) less ever)
    where
      fate : Fate
      fate = fate_of (back_plan_of list script start) turn k

      by : Standing list script start slot k (fate_of (back_plan_of list script start) turn k)
          → is_sound_after (back_plan_of list script start) turn k ≡ true
      by (Clear none is) = ap is_sound_fate is
      by (LostSince since lost) =
          absurd (both_ways _ out (lost-in run turn slot (omega arith) within k since fate lost))
      by (ArmedSince arm armed) = elim (cases_lt (suc slot) (arm + four_rounds list)) [
        | inl soon ↦
            absurd (both_ways _ out (arm-stays run armed.is (suc slot) (omega (arith, armed.from))
            (omega (arith, soon, armed.from))))
        | inr over ↦
            ap is_sound_fate (armed.entered (omega (
              arith,
              over,
              armed.to,
              (entry-of armed.is).to,
              run.course.valid.count,
            )))
      ]
