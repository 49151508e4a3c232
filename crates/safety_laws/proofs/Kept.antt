-- A script that keeps the single-fault hypothesis, by its plan.
use Rattle.safety_laws.proofs.Words.{◌≡◌, ℕ, suc, ◌+◌, ◌-◌, ◌<◌, ◌≤◌, ◌≤ℤ◌, ◌-ℤ◌, true, length, refl, ap, sym, subst}
use Rattle.safety_laws.proofs.Words.{◌∙◌, neg_ℤ, arith, false≢true, Medl, Script, diary_of, place_of, needed}
use Rattle.safety_laws.proofs.Words.{is_correct_after, IsLegal, IsValid, newest_slot, IsSafe, IsValidScript, Numbers}
use Rattle.safety_laws.proofs.Words.{node_past, world, length-world, spread, IsIn, clock_at, measured, is_sound_after}
use Rattle.safety_laws.proofs.Words.{KeepsByPlan, FaultPlan, fault_plan_of, kept-plan, IsSoundIn, GoesOnByPlan, IsTight}
use Rattle.safety_laws.proofs.Words.{IsSoundAt, FaultyLeave, IsBegunAlone, StandsWithFaults, IsByPlan}
use Rattle.safety_laws.proofs.Words.{AcceptsAlikeSince, StandsAlikeSince}
use Rattle.ttp_world.specs.declared.keep.Keep.TheVariants as keep
use Rattle.ttp_world.specs.Hypothesis.{keeps}
use Rattle.safety_laws.proofs.Bounds.{tight-clocks, tight-deviations}
use Rattle.safety_laws.proofs.SafeByFate.{safe-after, faulty-leave, correct-sound as correct-at}
use Rattle.safety_laws.proofs.Accepted.{alike-run, stands-run}
use Rattle.safety_laws.proofs.Together.{KeepsClocks, clocks-hold, run-by_plan}

module _ (list : Medl) (script : Script) (slot : ℕ) (valid : IsValid list) (script_valid : IsValidScript list script)
    (kept : keeps list script ≡ keep.Yes slot) where
  pub by_plan : KeepsByPlan list script slot
  by_plan = kept-plan list script slot valid kept

  abbrev plan : FaultPlan
  plan = fault_plan_of list script by_plan.start

  begun : slot < script.slots → IsBegunAlone list script by_plan.start plan
  begun inside = record {
    planned = record {
      valid = valid;
      script_valid = script_valid;
      follows = by_plan.follows.planned;
      arms = λ k turn node lost. by_plan.arms k (by_plan.start.slot + suc turn);
    };
    alone = by_plan.alone;
    heard = λ k node other on. by_plan.heard k (let from = by_plan.from in omega (arith, inside, from)) node other on;
  }

  clocks : KeepsClocks list script by_plan.start plan
  clocks = clocks-hold list script by_plan.start plan valid by_plan.follows

  -- after the slot that came last
  module _ (numbers : Numbers) (legal : IsLegal list script numbers) (after : slot < length numbers)
      (within : length numbers ≤ script.slots) where
    abbrev turn : ℕ
    turn = length numbers - suc slot

    count : length numbers ≡ suc (by_plan.start.slot + turn)
    count = let from = by_plan.from in omega (arith, after, from)

    run : IsByPlan list script by_plan.start plan turn (world list script numbers)
    run =
        let number = count in
        run-by_plan list script by_plan.start plan (begun (omega (arith, after, within)))
        clocks turn numbers number (omega (arith, number, within)) legal

    pub kept-stands : StandsWithFaults list script by_plan.start plan turn (world list script numbers)
    kept-stands =
        let number = count in
        record {
          stands = record {
            planned = (begun (omega (arith, after, within))).planned;
            number = length-world list script numbers ∙ number;
            within = omega (arith, number, within);
            holds = run.holds;
          };
          faults = by_plan.faults;
        }

    pub kept-safe : IsSafe list script (world list script numbers)
    kept-safe = safe-after kept-stands

    pub kept-leave : FaultyLeave list script (world list script numbers)
    kept-leave = faulty-leave kept-stands

    -- the correct nodes are the sound ones
    correct-sound : (k : ℕ) → IsIn list (is_correct_after list script (newest_slot (world list script numbers))) k
        → is_sound_after plan turn k ≡ true
    correct-sound k of_k =
        let number = count in
        let newest : newest_slot (world list script numbers) ≡ by_plan.start.slot + turn =
        let all = length-world list script numbers in omega (arith, number, all) in
        by_plan.faults.sound turn k of_k.0 (omega (arith, number, within))
        ∙ ap (λ s. is_correct_after list script s k) (sym newest) ∙ of_k.1

    pub kept-alike : AcceptsAlikeSince list script
        (is_correct_after list script (newest_slot (world list script numbers))) slot (world list script numbers)
    kept-alike =
        let number = count in
        subst (λ s. AcceptsAlikeSince list script
        (is_correct_after list script (newest_slot (world list script numbers))) s (world list script numbers))
        by_plan.from (alike-run (begun (omega (arith, after, within))) clocks refl
        (is_correct_after list script (newest_slot (world list script numbers))) turn numbers
        correct-sound number (omega (arith, number, within)) legal)

    pub kept-stands_alike : StandsAlikeSince list
        (is_correct_after list script (newest_slot (world list script numbers))) slot (world list script numbers)
    kept-stands_alike =
        let number = count in
        subst (λ s. StandsAlikeSince list (is_correct_after list script (newest_slot (world list script numbers))) s
        (world list script numbers)) by_plan.from (stands-run (begun (omega (arith, after, within))) clocks refl
        (is_correct_after list script (newest_slot (world list script numbers))) turn numbers
        correct-sound number (omega (arith, number, within)) legal)

    pub kept-places : (j k : ℕ) → IsIn list (is_correct_after list script (newest_slot (world list script numbers))) j
        → IsIn list (is_correct_after list script (newest_slot (world list script numbers))) k
        → place_of list j (diary_of (world list script numbers) j)
        ≡ place_of list k (diary_of (world list script numbers) k)
    kept-places j k of_j of_k =
        let holds = safe-nodes in
        (holds j of_j.0 of_j.1).place ∙ sym (holds k of_k.0 of_k.1).place
      where
        safe-nodes : (k : ℕ) → k < length list.slots
            → is_correct_after list script (newest_slot (world list script numbers)) k ≡ true
            → IsSoundAt list plan turn k (node_past list script (world list script numbers) k)
        safe-nodes = correct-at kept-stands

  -- at the beginning of the slot that comes
  module _ (numbers : Numbers) (legal : IsLegal list script numbers) (after : slot < length numbers)
      (within : length numbers < script.slots) where
    abbrev past_turn : ℕ
    past_turn = length numbers - suc slot

    next_number : by_plan.start.slot + suc past_turn ≡ length numbers
    next_number = let from = by_plan.from in omega (arith, after, from)

    inside : by_plan.start.slot + suc past_turn < script.slots
    inside = let number = next_number in omega (arith, number, within)

    goes : GoesOnByPlan list script by_plan.start plan past_turn (world list script numbers)
    goes = record {
      valid = valid;
      follows = by_plan.follows;
      noted = (run numbers legal after (omega (arith, within))).noted;
      within = inside;
    }

    -- no node entered
    tight : IsTight plan (suc past_turn)
    tight later k from entered = absurd (false≢true entered)

    sound-in : (k : ℕ) → k < length list.slots → is_correct_after list script (length numbers) k ≡ true
        → IsSoundIn list plan (suc past_turn) k
    sound-in k node correct = (
      node,
      by_plan.faults.sound (suc past_turn) k node inside
          ∙ subst (λ s. is_correct_after list script s k ≡ true) (sym next_number) correct,
    )

    pub kept-clocks : (j k : ℕ) → j < length list.slots → k < length list.slots
        → is_correct_after list script (length numbers) j ≡ true
        → is_correct_after list script (length numbers) k ≡ true
        → (clock_at list script (world list script numbers) j -ℤ clock_at list script (world list script numbers) k)
        ≤ℤ spread list
    kept-clocks j k node_j node_k correct_j correct_k =
        tight-clocks goes tight j k (sound-in j node_j correct_j) (sound-in k node_k correct_k)

    pub kept-deviations : (r p : ℕ) → r < length list.slots → p < length list.slots
        → is_correct_after list script (length numbers) r ≡ true
        → is_correct_after list script (length numbers) p ≡ true
        → (neg_ℤ (needed list) ≤ℤ measured list script (world list script numbers) r p)
        × (measured list script (world list script numbers) r p ≤ℤ needed list)
    kept-deviations r p node_r node_p correct_r correct_p =
        tight-deviations goes tight r p (sound-in r node_r correct_r) (sound-in p node_p correct_p)
