-- The sound nodes' clocks at the beginning of a slot, and what they measure of each other in it.
use Rattle.safety_laws.proofs.Words.{◌≡◌, ℕ, zero, suc, ◌+◌, ◌<◌, ℤ, neg_ℤ, ◌-ℤ◌, ◌≤ℤ◌, Bool, true, false, ◌&&◌, length}
use Rattle.safety_laws.proofs.Words.{inl, inr, refl, ap, sym, ◌∙◌, arith, int_le, and_parts, and_from, both_ways}
use Rattle.safety_laws.proofs.Words.{false≢true, ints, Medl, Script, History, next_place, Place, ClusterStart, needed}
use Rattle.safety_laws.proofs.Words.{is_within_window, spread, clock_at, measured, IsUpTo, FaultPlan, sender, enters}
use Rattle.safety_laws.proofs.Words.{fate_of, is_sound_after, sound-from, none-enters, NoneEnters, IsNewestEntry}
use Rattle.safety_laws.proofs.Words.{IsSoundIn, GoesOnByPlan, IsTight}
use Rattle.ttp_world.specs.Returning.{needed_back}
use Rattle.precision.specs.Spread.{spread_rejoining, needed_rejoining}
use Rattle.precision.specs.Company.{IsCompanyRun, IsCompanySettled, slots_over, HoldsCompanyClocksWithin}
use Rattle.precision.specs.Company.{HoldsSettledClocksWithin, HoldsCompanyDeviationsWithin}
use Rattle.precision.specs.Company.{HoldsSettledDeviationsWithin}
use Rattle.safety_laws.proofs.FromBelow.{needed_window, company_clocks, settled_clocks, company_deviations}
use Rattle.safety_laws.proofs.FromBelow.{settled_deviations, le_trans as no-more}
use Rattle.safety_laws.proofs.Returns.{enters-late}
use Rattle.safety_laws.proofs.Company.{sound-calm, ran-company, company-in}
use Rattle.safety_laws.proofs.RoundNotes.{tight-stays, place-slot}
use Rattle.safety_laws.proofs.BeganTogether.{number-of, counted-run}

-- a node that is sound before the coming slot and after it
abbrev stays_sound : FaultPlan → ℕ → ℕ → Bool
stays_sound plan slot k = is_sound_after plan slot k && is_sound_after plan (suc slot) k

in-window : (w b z : ℤ) → b ≤ℤ w → IsUpTo b z → (int_le (neg_ℤ w) z && int_le z w) ≡ true
in-window w b z wide near = grind (arith, ints, near.0, near.1)

module _ {list : Medl} {script : Script} {start : ClusterStart} {plan : FaultPlan} {slot : ℕ} {history : History}
    (is : GoesOnByPlan list script start plan slot history) where
  number : length history ≡ suc (start.slot + slot)
  number = number-of list script start plan slot history is.noted

  -- those run as a company up to its beginning; where none may come, none entered
  company-run : (may_grow : Bool) → (may_grow ≡ false → NoneEnters plan slot)
      → (newest : ℕ) × (IsNewestEntry plan slot newest
      × IsCompanyRun list script may_grow (stays_sound plan slot) (start.slot + newest) history)
  company-run may_grow stay =
      let less : length history < script.slots = omega (arith, is.within, number) in
      let run = ran-company is.follows.planned may_grow slot history is.noted (omega (arith, less)) stay in (
        run.0,
        (
          run.1.0,
          record {
            bounds = is.follows.bounds.clocks;
            within = omega (arith, less);
            calm = λ k p. sound-calm is.follows.planned (suc slot) history (omega (arith, number)) less k
                (p.0, (and_parts (is_sound_after plan slot k) (is_sound_after plan (suc slot) k) p.1).1);
            together = company-in list script may_grow (stays_sound plan slot) (is_sound_after plan slot)
                (start.slot + run.0) history
                (λ k both. (and_parts (is_sound_after plan slot k) (is_sound_after plan (suc slot) k) both).0) run.1.1;
          },
        ),
      )

  any-run : (newest : ℕ) × (IsNewestEntry plan slot newest
      × IsCompanyRun list script true (stays_sound plan slot) (start.slot + newest) history)
  any-run = company-run true (λ fixed. absurd (false≢true (sym fixed)))

  stays : (k : ℕ) → IsSoundIn list plan (suc slot) k → enters plan (suc slot) k ≡ false
      → (k < length list.slots) × (stays_sound plan slot k ≡ true)
  stays k p none = (
    p.0,
    and_from (is_sound_after plan slot k) (is_sound_after plan (suc slot) k)
        (sound-from plan (suc slot) k (fate_of plan slot k) none p.1) p.1,
  )

  -- the newest entry was by a return more than a round before the coming slot's round
  settled-in : (newest : ℕ) → newest + plan.nodes + sender plan (suc slot) < suc slot
      → IsCompanySettled list true (stays_sound plan slot) (start.slot + newest) history
  settled-in newest late =
      inr (inr (λ k p.
      let sound = (and_parts (is_sound_after plan slot k) (is_sound_after plan (suc slot) k) p.1).0 in
      let counted = counted-run list script start plan slot history is.follows.planned is.noted in
      let over : slots_over list history k ≡ sender plan (suc slot) =
      ap (λ (place : Place). (next_place list place).slot) (counted.places k (p.0, sound))
      ∙ place-slot list script start plan (suc slot) is.follows.planned in
      omega (arith, over, number, late, is.follows.planned.nodes)))

  pub near-clocks : (j k : ℕ) → IsSoundIn list plan (suc slot) j → IsSoundIn list plan (suc slot) k
      → enters plan (suc slot) j ≡ false → enters plan (suc slot) k ≡ false
      → (clock_at list script history j -ℤ clock_at list script history k) ≤ℤ spread_rejoining list
  unfolding HoldsCompanyClocksWithin
  near-clocks j k p q first second =
      company_clocks list is.valid script true (stays_sound plan slot) (start.slot + any-run.0) history any-run.1.1 j k
      (stays j p first) (stays k q second)

  pub near-deviations : (r p : ℕ) → IsSoundIn list plan (suc slot) r → IsSoundIn list plan (suc slot) p
      → enters plan (suc slot) r ≡ false → enters plan (suc slot) p ≡ false
      → IsUpTo (needed_rejoining list) (measured list script history r p)
  unfolding HoldsCompanyDeviationsWithin
  near-deviations r p a b first second =
      company_deviations list is.valid script true (stays_sound plan slot) (start.slot + any-run.0) history any-run.1.1
      (omega (arith, is.within, number)) r p (stays r a first) (stays p b second)

  -- In a tight slot the company is settled, one to which none may come if none entered.
  module _ (tight : IsTight plan (suc slot)) where
    settled-run : (may_grow : Bool) × ((newest : ℕ)
        × (IsCompanyRun list script may_grow (stays_sound plan slot) newest history
        × IsCompanySettled list may_grow (stays_sound plan slot) newest history))
    settled-run = elim any-run.1.0.by [
      | inl first ↦
          let fixed = company-run false (λ no turn k upto. none any-run.0 any-run.1.0 first turn k upto) in
          (false, (start.slot + fixed.0, (fixed.1.1, inl refl)))
      | inr some ↦ (
        true,
        (
          start.slot + any-run.0,
          (
            any-run.1.1,
            settled-in any-run.0 (tight any-run.0 some.0 (omega (arith, any-run.1.0.within)) some.1),
          ),
        ),
      )
    ]
      where
        none : (newest : ℕ) → IsNewestEntry plan slot newest → newest ≡ 0 → NoneEnters plan slot
        none newest entry first zero k upto = enters-late plan k is.follows.planned.good
        none newest entry first (suc turn) k upto = entry.none (suc turn) k (omega (arith, first)) upto

    pub tight-clocks : (j k : ℕ) → IsSoundIn list plan (suc slot) j → IsSoundIn list plan (suc slot) k
        → (clock_at list script history j -ℤ clock_at list script history k) ≤ℤ spread list
    unfolding HoldsSettledClocksWithin
    tight-clocks j k p q =
        settled_clocks list is.valid script settled-run.0 (stays_sound plan slot) settled-run.1.0 history
        settled-run.1.1.0 settled-run.1.1.1 j k (stays j p (tight-stays plan (suc slot) j tight))
        (stays k q (tight-stays plan (suc slot) k tight))

    pub tight-deviations : (r p : ℕ) → IsSoundIn list plan (suc slot) r → IsSoundIn list plan (suc slot) p
        → IsUpTo (needed list) (measured list script history r p)
    unfolding HoldsSettledDeviationsWithin
    tight-deviations r p a b =
        settled_deviations list is.valid script settled-run.0 (stays_sound plan slot) settled-run.1.0 history
        settled-run.1.1.0 settled-run.1.1.1 (omega (arith, is.within, number)) r p
        (stays r a (tight-stays plan (suc slot) r tight)) (stays p b (tight-stays plan (suc slot) p tight))

  pub sound-inside : (r p : ℕ) → IsSoundIn list plan (suc slot) r → IsSoundIn list plan (suc slot) p
      → enters plan (suc slot) r ≡ false → enters plan (suc slot) p ≡ false
      → is_within_window list (measured list script history r p) ≡ true
  sound-inside r p a b first second = elim is.follows.window [
    | inl none ↦
        in-window list.window (needed list) (measured list script history r p) is.follows.bounds.window
        (tight-deviations (λ turn k upto enter.
        absurd (both_ways (enters plan turn k) (none-enters plan turn k none) enter)) r p a b)
    | inr wide ↦
        in-window list.window (needed_rejoining list) (measured list script history r p)
        (no-more (needed_rejoining list) (needed_back list) list.window (needed_window list is.valid) wide)
        (near-deviations r p a b first second)
  ]
