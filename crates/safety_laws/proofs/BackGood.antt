-- The plan of a run whose armed nodes return is good.
use Rattle.safety_laws.proofs.BackWords.{◌≡◌, ◌≢◌, ℕ, zero, suc, ◌+◌, ◌-◌, ◌*◌, ◌<◌}
use Rattle.safety_laws.proofs.BackWords.{◌≤◌, Bool, true, false, cond, not, ◌||◌}
use Rattle.safety_laws.proofs.BackWords.{◌∷◌, length, Some, ◌⊎◌, refl, ap, sym, subst}
use Rattle.safety_laws.proofs.BackWords.{◌∙◌, inl, inr, arith, Contains, filter}
use Rattle.safety_laws.proofs.BackWords.{range_with_len, and_parts, and_from, both_ways}
use Rattle.safety_laws.proofs.BackWords.{cases_lt, eqb-true, eqb-false, not-true}
use Rattle.safety_laws.proofs.BackWords.{not_from_false, false_from_ne_true, leb-true, ltb-true, none-some, has_node}
use Rattle.safety_laws.proofs.BackWords.{has_node-sieve, Medl, Script, ClusterStart}
use Rattle.safety_laws.proofs.BackWords.{is_steady, expected_sender, two_rounds}
use Rattle.safety_laws.proofs.BackWords.{four_rounds, slots_before, is_forgiven, offers_place, Incident, Return, sender}
use Rattle.safety_laws.proofs.BackWords.{incident_at, enters, Fate, Absent, Sound, Listening, fate_of, is_sound_after}
use Rattle.safety_laws.proofs.BackWords.{lost_since, is_good_slot, on-ever, sender-same}
use Rattle.safety_laws.proofs.BackWords.{sender-less, incident-made, any-of}
use Rattle.safety_laws.proofs.BackWords.{entry_slot, back_plan_of}
use Rattle.ttp_world.specs.Medl.{plan_at}
use Rattle.safety_laws.specs.Fates.{Falling, Fallen, is_lost}
use Rattle.safety_laws.specs.Fates.{is_entry_near, is_new_after, is_steady_after}
use Rattle.safety_laws.specs.GoodPlan.{IsReturn, IsGoodPlan}
use Rattle.safety_laws.proofs.Incidents.{found-within}
use Rattle.safety_laws.proofs.CoursePlans.{good-by}
use Rattle.safety_laws.proofs.BackSlots.{sound-earlier}
use Rattle.safety_laws.proofs.ArmLines.{return_at}
use Rattle.safety_laws.proofs.Arms.{IsArmedIn, arm-faulty, arm-quiet, arm-only, armed-after}
use Rattle.safety_laws.proofs.Entries.{entry-of}
use Rattle.safety_laws.proofs.BackRuns.{IsBackRun}
use Rattle.safety_laws.proofs.Sounds.{faulty-ever}
use Rattle.safety_laws.proofs.Standing.{Standing, Clear, LostSince, ArmedSince, standing, clear-sound, HasLine, line-of}
use Rattle.safety_laws.proofs.Walk.{at, after, after-has, at-next, forgiven-late}

since-lost : (fate : Fate) (since : ℕ) → lost_since fate ≡ Some since → is_lost fate ≡ true
since-lost Absent since is = absurd (none-some _ is)
since-lost Sound since is = absurd (none-some _ is)
since-lost (Falling change from) since is = refl
since-lost (Fallen change from shown) since is = refl
since-lost (Listening from) since is = absurd (none-some _ is)

filter-more : (p q : ℕ → Bool) (a n : ℕ) → ((k : ℕ) → a ≤ k → k < a + n → p k ≡ true → q k ≡ true)
    → length (filter p (range_with_len a n)) ≤ length (filter q (range_with_len a n))
filter-more p q a zero gives = omega arith
filter-more p q a (suc n) gives =
    by (p a) (q a) refl refl
    (filter-more p q (a + 1) n (λ k from to passes. gives k (omega arith) (omega arith) passes))
  where
    by : (b c : Bool) → p a ≡ b → q a ≡ c
        → length (filter p (range_with_len (a + 1) n)) ≤ length (filter q (range_with_len (a + 1) n))
        → length (cond b (a ∷ filter p (range_with_len (a + 1) n)) (filter p (range_with_len (a + 1) n)))
        ≤ length (cond c (a ∷ filter q (range_with_len (a + 1) n)) (filter q (range_with_len (a + 1) n)))
    by true true here there rest = omega arith
    by true false here there rest = absurd (both_ways _ there (gives a (omega arith) (omega arith) here))
    by false true here there rest = omega arith
    by false false here there rest = rest

module _ {list : Medl} {script : Script} {start : ClusterStart} (run : IsBackRun list script start) where
  -- Returns.

  -- a node is lost before the slot in which it is armed
  armed-was : (turn slot k : ℕ) → slot ≡ start.slot + turn → IsArmedIn list script start k (suc slot)
      → is_lost (fate_of (back_plan_of list script start) turn k) ≡ true
  armed-was turn slot k now is =
      by (standing run turn slot k now (omega (arith, is.within)) is.less (faulty-ever run (suc slot) k has))
    where
      has : has_node (at list script start (suc slot)) k ≡ true
      has = arm-faulty is

      kept : (has_node (after list script start slot) k ≡ true)
          × (not (is_forgiven list script (slots_before list script start (suc slot)) (suc slot) k) ≡ true)
      kept = and_parts _ _ (sym (at-next list script start slot k) ∙ has)

      by : Standing list script start slot k (fate_of (back_plan_of list script start) turn k)
          → is_lost (fate_of (back_plan_of list script start) turn k) ≡ true
      by (Clear none sound) = absurd (both_ways _ none kept.0)
      by (LostSince since lost) =
          since-lost (fate_of (back_plan_of list script start) turn k) (since - start.slot) lost.fate_is
      by (ArmedSince arm armed) = elim (cases_lt (suc slot) (arm + four_rounds list)) [
        | inl soon ↦
            let same = arm-only armed.is k (suc slot) is.armed (omega (arith, armed.from)) soon in
            absurd (omega (arith, same.1, armed.from))
        | inr over ↦
            let forgiven =
            forgiven-late list script start (suc slot) arm k (omega (arith, run.course.valid.count))
            (omega (arith, over, armed.to)) ∙ and_from _ _ (arm-faulty armed.is) armed.is.armed in
            absurd (both_ways _ (not-true _ kept.1) forgiven)
      ]

  -- the slot in which it enters is good
  pub entry-good : (turn slot k arm : ℕ) → IsArmedIn list script start k arm → slot ≡ start.slot + turn
      → slot < script.slots → entry_slot list script start k arm ≡ slot
      → (is_good_slot (back_plan_of list script start) turn ≡ true) × (sender (back_plan_of list script start) turn ≢ k)
  entry-good turn slot k arm is now within enters =
      let e = expected_sender list start slot in
      let faulty = at list script start slot in
      let entry = entry-of is in
      let offers : offers_place list script start k slot ≡ true =
      ap (offers_place list script start k) (sym enters) ∙ entry.offered (omega (arith, enters, within)) in
      let parts = and_parts _ _ offers in
      let sounds = and_parts _ _ parts.1 in
      let clear = and_parts _ _ sounds.0 in
      let same = sender-same run.course slot turn now within in
      let quiet =
      arm-quiet is slot within (omega (arith, enters, entry.from, run.course.valid.count))
      (omega (arith, enters, entry.to, run.course.valid.count)) in
      let none : has_node (after list script start slot) e ≡ false =
      after-has list script start slot e ∙ ap (λ ks. has_node ks e || has_node faulty e) quiet ∙ not-true _ clear.1 in (
        ap (is_sound_after (back_plan_of list script start) turn) (sym same)
            ∙ clear-sound run turn slot e now within (sender-less run.course slot) (on-ever script e slot clear.0) none,
        λ at. eqb-false e k (not-true _ parts.0) (same ∙ at),
      )

  pub back-return : (r : Return) → Contains (back_plan_of list script start).returns r
      → IsReturn (back_plan_of list script start) r
  back-return r among =
      let line = line-of run r among in
      let entry = entry-of line.is in
      let some = run.course.valid.count in
      record {
        node = line.is.less;
        was = (
          r.armed - 1,
          (
            omega (arith, line.armed, line.late, some),
            armed-was (r.armed - 1) (line.arm - 1) r.node (omega (arith, line.armed, line.late, some))
                (subst (IsArmedIn list script start r.node) (omega (arith, line.late, some)) line.is),
          ),
        );
        after = omega (arith, line.armed, line.entered, entry.from);
        entry = λ within.
            entry-good r.entered (entry_slot list script start r.node line.arm) r.node line.arm line.is
            (sym line.entered) (omega (arith, line.entered, within)) refl;
        losses = λ slot incident found. loss-far slot incident r line found;
        others = λ q among_too. other-far q r (line-of run q among_too) line;
      }
    where
      loss-far : (slot : ℕ) (incident : Incident) (r : Return) → (line : HasLine list script start r)
          → incident_at (back_plan_of list script start) slot ≡ Some incident
          → (slot + 2 * length list.slots ≤ r.armed) ⊎ (r.entered + 2 * length list.slots < slot)
      loss-far slot incident r line found =
          let within = found-within run.course slot incident found in
          let entry = entry-of line.is in
          let only = incident-made run.course (start.slot + slot) slot refl within incident found in
          elim (cases_lt line.arm (start.slot + slot + two_rounds list)) [
            | inr early ↦ inl (omega (arith, line.armed, early))
            | inl near ↦ elim (cases_lt (start.slot + slot) (line.arm + four_rounds list)) [
              | inl soon ↦
                  absurd (both_ways _ (ap (λ ks. has_node ks incident.node)
                  (arm-quiet line.is (start.slot + slot) within near soon)) only.has)
              | inr far ↦
                  let soon = entry.soon (omega (arith, entry.to, within, far, run.course.valid.count)) in
                  inr (omega (arith, line.entered, soon, far))
            ]
          ]

      other-far : (q r : Return) → (one : HasLine list script start q) → (two : HasLine list script start r)
          → (q ≡ r) ⊎ ((q.entered + 2 * length list.slots ≤ r.armed) ⊎ (r.entered + 2 * length list.slots ≤ q.armed))
      other-far q r one two =
          let entry = entry-of one.is in
          let later = entry-of two.is in
          elim (cases_lt two.arm one.arm) [
            | inl before ↦ elim (cases_lt one.arm (two.arm + four_rounds list)) [
              | inl near ↦
                  let same = arm-only two.is q.node one.arm one.is.armed (omega (arith, before)) near in
                  absurd (omega (arith, before, same.1))
              | inr far ↦ inr (inr (omega (arith, two.entered, one.armed, later.to, far)))
            ]
            | inr from ↦ elim (cases_lt two.arm (one.arm + four_rounds list)) [
              | inl near ↦
                  let same = arm-only one.is r.node two.arm two.is.armed from near in
                  inl (one.same ∙ (λ i. return_at list script start (same.0 i) (same.1 i)) ∙ sym two.same)
              | inr far ↦ inr (inl (omega (arith, one.entered, two.armed, entry.to, far)))
            ]
          ]

  -- Nodes to measure.

  -- a node that is not faulty entered no less than a round ago
  old-enough : (turn slot k : ℕ) → slot ≡ start.slot + turn → has_node (after list script start slot) k ≡ false
      → is_new_after (back_plan_of list script start) turn k ≡ false
  old-enough turn slot k now none =
      let plan = back_plan_of list script start in
      false_from_ne_true _ (λ new.
      let found = any-of (is_entry_near plan.nodes turn k) plan.returns new in
      let r = found.0 in
      let parts = and_parts _ _ found.1.1 in
      let times = and_parts _ _ parts.1 in
      let node : r.node ≡ k = eqb-true _ _ parts.0 in
      let line = line-of run r found.1.0 in
      let entry = entry-of line.is in
      let low : r.entered ≤ turn = leb-true _ _ times.0 in
      let high : turn < r.entered + length list.slots = ltb-true _ _ times.1 in
      both_ways _ none (ap (has_node (after list script start slot)) (sym node)
      ∙ armed-after run line.is slot (omega (arith, line.entered, low, now, entry.from))
      (omega (arith, line.entered, high, now, entry.to))))

  steady-is : (turn slot k : ℕ) → slot ≡ start.slot + turn → slot < script.slots → k < length list.slots
      → is_steady list script (after list script start slot) k ≡ true
      → is_steady_after (back_plan_of list script start) turn k ≡ true
  steady-is turn slot k now within less steady =
      let plan = back_plan_of list script start in
      let gone = after list script start slot in
      let parts = and_parts _ _ steady in
      let rest = and_parts _ _ parts.1 in
      let none = not-true _ rest.1 in
      and_from _ _ (has_node-sieve (λ k. (plan_at list k).sync) (length list.slots) k less ∙ parts.0) (and_from _ _
      (clear-sound run turn slot k now within less rest.0 none) (not_from_false _ (old-enough turn slot k now none)))

  -- All of it.

  pub back-good : IsGoodPlan (back_plan_of list script start)
  back-good = good-by run.course (back_plan_of list script start).returns (sound-earlier run) back-return
      (λ turn within.
      let slot = start.slot + turn in
      let plan = back_plan_of list script start in
      let four = leb-true 4 _ (run.steady slot (omega arith) within) in
      let more =
      filter-more (is_steady list script (after list script start slot)) (is_steady_after plan turn) 0
      (length list.slots) (λ k from to steady. steady-is turn slot k refl within (omega (arith, to)) steady) in
      omega (arith, four, more))
