-- An armed node enters by the first frame of a sound node that carries a place.
use Rattle.safety_laws.proofs.BackWords.{◌≡◌, ◌≢◌, ℕ, zero, suc, ◌+◌, ◌-◌, ◌*◌, ◌<◌}
use Rattle.safety_laws.proofs.BackWords.{◌≤◌, Bool, true, false, cond, length, refl}
use Rattle.safety_laws.proofs.BackWords.{ap, sym, subst, ◌∙◌, inl, inr, arith, ◌==◌}
use Rattle.safety_laws.proofs.BackWords.{Contains, and_parts, and_from, both_ways}
use Rattle.safety_laws.proofs.BackWords.{ne_eqb, eqb-true, eqb-false, false_from_ne_true}
use Rattle.safety_laws.proofs.BackWords.{not_from_false, cases_lt, has_node}
use Rattle.safety_laws.proofs.BackWords.{Medl, Script, ClusterStart, expected_sender}
use Rattle.safety_laws.proofs.BackWords.{two_rounds, is_on, Return, FaultPlan}
use Rattle.safety_laws.proofs.BackWords.{is_sound_after, is_good_slot, on-now, sender-less, sender-same, entry_slot}
use Rattle.safety_laws.proofs.BackWords.{back_plan_of}
use Rattle.std.proofs.Common.{◌/◌, ◌%◌}
use Rattle.std.proofs.Common.{mod-lt}
use Rattle.std.proofs.Math.Nat.{mod-add-div', mod-add-mod, mod-eq_of_lt, div-eq_of_lt}
use Rattle.std.proofs.lemmas.Nat.{div-mul-add}
use Rattle.ttp_world.specs.Diary.{Place, next_place}
use Rattle.ttp_world.specs.Medl.{kind_at}
use Rattle.ttp_world.specs.Returning.{round_of, carries_place}
use Rattle.safety_laws.specs.Kept.{kind_in, IsOffered}
use Rattle.safety_laws.specs.Places.{planned_place}
use Rattle.safety_laws.proofs.Places.{place-sender}
use Rattle.safety_laws.proofs.Arms.{arm-only, arm-stays}
use Rattle.safety_laws.proofs.Entries.{IsEntryOf, entry-of}
use Rattle.safety_laws.proofs.BackRuns.{IsBackRun}
use Rattle.safety_laws.proofs.Sounds.{Soundly, BeingClear, NearArm, sound-how}
use Rattle.safety_laws.proofs.Standing.{HasLine, line-of}
use Rattle.safety_laws.proofs.Walk.{at}

-- The round of a slot.

next-div : (n a : ℕ) (last : Bool) → 0 < n → (suc (a % n) == n) ≡ last → suc a / n ≡ cond last (suc (a / n)) (a / n)
next-div n a true some last =
    let whole : a % n + (a / n) * n ≡ a = mod-add-div' a n in
    let round : suc (a % n) ≡ n = eqb-true _ _ last in
    let more : (a / n + 1) * n ≡ (a / n) * n + n = omega arith in
    let next : suc a ≡ (a / n + 1) * n + 0 = omega arith in
    let one : a / n + 1 ≡ suc (a / n) = omega arith in
    ap (λ t. t / n) next ∙ div-mul-add (a / n + 1) n 0 some ∙ one
next-div n a false some inside =
    let whole : a % n + (a / n) * n ≡ a = mod-add-div' a n in
    let less : a % n < n = mod-lt a some in
    let other = eqb-false _ _ inside in
    let next : suc a ≡ (a / n) * n + suc (a % n) = omega arith in
    let fits : suc (a % n) < n = fits-in (suc (a % n)) n (omega arith) other in
    ap (λ t. t / n) next ∙ div-mul-add (a / n) n (suc (a % n)) fits
  where
    fits-in : (m k : ℕ) → m ≤ k → m ≢ k → m < k
    fits-in m k few other = omega arith

round-next : (list : Medl) (place : Place) (last : Bool) → (suc place.slot == length list.slots) ≡ last
    → (next_place list place).round ≡ cond last ((place.round + 1) % list.rounds) place.round
round-next list place true last = rw last
round-next list place false inside = rw inside

planned-round : (list : Medl) (plan : FaultPlan) (slot : ℕ) → plan.nodes ≡ length list.slots → plan.starter < plan.nodes
    → 0 < list.rounds → (planned_place list plan slot).round ≡ (plan.starter + slot) / length list.slots % list.rounds
planned-round list plan zero same less rounds =
    let none : plan.starter + 0 ≡ plan.starter = omega arith in
    let first : plan.starter / length list.slots ≡ 0 = div-eq_of_lt (subst (λ n. plan.starter < n) same less) in
    sym (ap (λ t. t / length list.slots % list.rounds) none ∙ ap (λ q. q % list.rounds) first ∙ mod-eq_of_lt rounds)
planned-round list plan (suc slot) same less rounds =
    let n = length list.slots in
    let a = plan.starter + slot in
    let place = planned_place list plan slot in
    let at : place.slot ≡ a % n = place-sender list plan slot same less ∙ ap (λ m. a % m) same in
    let last = suc (a % n) == n in
    let before = planned-round list plan slot same less rounds in
    let next : suc a ≡ plan.starter + suc slot = omega arith in
    round-next list place last (ap (λ t. suc t == n) at) ∙ ap (λ r. cond last ((r + 1) % list.rounds) r) before
    ∙ turn last ∙ ap (λ q. q % list.rounds) (sym (next-div n a last (subst (λ m. 0 < m) same (omega arith)) refl))
    ∙ ap (λ t. t / n % list.rounds) next
  where
    turn : (last : Bool)
        → cond last (((plan.starter + slot) / length list.slots % list.rounds + 1) % list.rounds)
        ((plan.starter + slot) / length list.slots % list.rounds)
        ≡ cond last (suc ((plan.starter + slot) / length list.slots)) ((plan.starter + slot) / length list.slots)
        % list.rounds
    turn true =
        let q = (plan.starter + slot) / length list.slots in
        let one : q + 1 ≡ suc q = omega arith in
        mod-add-mod q list.rounds 1 ∙ ap (λ t. t % list.rounds) one
    turn false = refl

module _ {list : Medl} {script : Script} {start : ClusterStart} (run : IsBackRun list script start) where
  abbrev plan : FaultPlan
  plan = back_plan_of list script start

  turns : (turn : ℕ) → (start.slot + turn) - start.slot ≡ turn
  turns turn = omega arith

  -- the kind of a slot's frame, by the plan and by the script
  kind-same : (turn : ℕ) → kind_in list plan turn
      ≡ kind_at list (round_of list start (start.slot + turn)) (expected_sender list start (start.slot + turn))
  kind-same turn =
      let rounds = run.course.valid.rounds in
      (λ i. kind_at list ((planned-round list plan turn refl run.course.alone.node (omega (arith, rounds))
      ∙ ap (λ t. (start.node + t) / length list.slots % list.rounds) (sym (turns turn))) i)
      ((place-sender list plan turn refl run.course.alone.node
      ∙ ap (λ t. (start.node + t) % length list.slots) (sym (turns turn))) i))

  -- what an arm line offers
  module _ (r : Return) (line : HasLine list script start r) where
    entry : IsEntryOf list script start r.node line.arm (entry_slot list script start r.node line.arm)
    entry = entry-of line.is

    offers-entry : r.entered < plan.slots → carries_place (kind_in list plan r.entered) ≡ true
    offers-entry within =
        let slot = entry_slot list script start r.node line.arm in
        let there = line.entered in
        let inside : slot < script.slots = omega (arith, within, there) in
        let parts = and_parts _ _ (entry.offered inside) in
        let carries = and_parts _ _ parts.1 in
        ap carries_place (kind-same r.entered)
        ∙ ap (λ t. carries_place (kind_at list (round_of list start t) (expected_sender list start t))) there
        ∙ carries.1

    -- a good slot before has no such frame
    module _ (turn : ℕ) (from : r.armed ≤ turn) (to : turn < r.entered) (within : turn < plan.slots)
        (good : is_good_slot plan turn ≡ true) where
      abbrev slot : ℕ
      slot = start.slot + turn

      abbrev e : ℕ
      e = expected_sender list start slot

      near : line.arm ≤ slot
      near = let arm_at = line.armed in omega (arith, arm_at, from)

      soon : slot < line.arm + two_rounds list
      soon =
          let entry_at = line.entered in
          let last = entry.to in
          omega (arith, entry_at, to, last)

      before : slot < entry_slot list script start r.node line.arm
      before = let entry_at = line.entered in omega (arith, entry_at, to)

      clear : Soundly list script start slot e
          → (is_on script e slot ≡ true) × (has_node (at list script start slot) e ≡ false)
      clear (BeingClear is) = (on-now run.course slot e (omega arith) (sender-less run.course slot) is.ever, is.was)
      clear (NearArm also entered) =
          let count = run.course.valid.count in
          let first = also.from in
          let last = also.to in
          let behind = soon in
          let here = near in
          absurd (elim (cases_lt line.arm also.arm) [
            | inl before ↦
                let same = arm-only line.is e also.arm also.is.armed (omega arith)
                (omega (arith, first, behind, count)) in
                let one = same.1 in
                omega (arith, one, before)
            | inr later ↦
                let same = arm-only also.is r.node line.arm line.is.armed later (omega (arith, here, last)) in
                let there : entry_slot list script start r.node line.arm ≤ slot =
                subst (λ j. entry_slot list script start j line.arm ≤ slot) same.0
                (subst (λ a. entry_slot list script start e a ≤ slot) same.1 entered) in
                let early = before in
                omega (arith, there, early)
          ])

      none-before : carries_place (kind_in list plan turn) ≡ false
      none-before =
          let inside : slot < script.slots = omega (arith, within) in
          let known = clear (sound-how run turn slot e refl inside (sender-less run.course slot)
          (ap (is_sound_after plan turn) (sender-same run.course slot turn refl inside) ∙ good)) in
          let has : has_node (at list script start slot) r.node ≡ true =
          arm-stays run line.is slot
          (let here = near in omega (arith, here)) (let behind = soon in omega (arith, behind)) in
          ap carries_place (kind-same turn) ∙ false_from_ne_true _ (λ carries.
          both_ways _ (entry.none slot near before inside)
          (and_from _ _ (not_from_false _ (ne_eqb _ _ (λ same.
          both_ways _ (ap (has_node (at list script start slot)) (sym same) ∙ known.1) has)))
          (and_from _ _ (and_from _ _ known.0 (not_from_false _ known.1)) carries)))

  pub offered : (r : Return) → Contains plan.returns r → IsOffered list plan r
  offered r among =
      let line = line-of run r among in
      record { place = offers-entry r line; none = none-before r line }
