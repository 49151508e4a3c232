-- What the ledgers of a good plan tell.
use Rattle.safety_laws.proofs.PlanWords.{◌≡◌, ◌≢◌, ℕ, zero, suc, ◌+◌, ◌-◌, ◌<◌, ◌≤◌}
use Rattle.safety_laws.proofs.PlanWords.{Bool, true, false, cond, refl, ap, sym}
use Rattle.safety_laws.proofs.PlanWords.{◌∙◌, inl, inr, arith, ◌==◌, if◌then◌else◌}
use Rattle.safety_laws.proofs.PlanWords.{cases_lt, eqb-true, eqb-false, both_ways}
use Rattle.safety_laws.proofs.PlanWords.{eq-or-lt_of_le, FaultPlan, sender, enters, is_good_slot, is_first_slot, tally}
use Rattle.safety_laws.proofs.PlanWords.{IsGoodPlan, opened, with_slot, ledger_of, IsLedgerOf}
use Rattle.safety_laws.specs.Ledger.{Ledger}
use Rattle.safety_laws.proofs.Turns.{next_turn}

none-counted : (p : ℕ → Bool) (slot : ℕ) → 0 ≡ tally p (suc slot) (slot - slot)
none-counted p slot = let none : 0 ≡ slot - slot = omega arith in ap (tally p (suc slot)) none

-- one slot more
counted-next : (p : ℕ → Bool) (base slot : ℕ) → base ≤ slot
    → (if p (suc slot) then 1 else 0) + tally p (suc base) (slot - base) ≡ tally p (suc base) (suc slot - base)
counted-next p base slot within =
    let more : suc (slot - base) ≡ suc slot - base = omega arith in
    let last : suc slot ≡ suc base + (slot - base) = omega arith in
    (λ i. (if p (last i) then 1 else 0) + tally p (suc base) (slot - base)) ∙ ap (tally p (suc base)) more

-- at an own slot
opened-told : (plan : FaultPlan) (slot k : ℕ) → IsGoodPlan plan → sender plan slot ≡ k
    → IsLedgerOf plan slot k (opened true slot)
opened-told plan slot k good own = record {
  within = omega arith;
  near = omega (arith, good.count);
  owned = λ _. own;
  began = λ none. absurd (both_ways true none refl);
  newest = λ turn within at. within;
  seen = none-counted (is_good_slot plan) slot;
  bad = none-counted (is_first_slot plan) slot;
}

-- at its entry
entered-told : (plan : FaultPlan) (slot k : ℕ) → IsGoodPlan plan → enters plan slot k ≡ true
    → IsLedgerOf plan slot k (opened false slot)
entered-told plan slot k good is = record {
  within = omega arith;
  near = omega (arith, good.count);
  owned = λ own. absurd (both_ways _ refl own);
  began = λ _. inr is;
  newest = λ turn within at. within;
  seen = none-counted (is_good_slot plan) slot;
  bad = none-counted (is_first_slot plan) slot;
}

-- at another's, or before the first
kept-near : (plan : FaultPlan) (slot base k : ℕ) → IsGoodPlan plan → k < plan.nodes → base ≤ slot
    → ((turn : ℕ) → base < turn → turn ≤ slot → sender plan turn ≢ k) → slot < base + plan.nodes
kept-near plan slot base k good less within none =
    let next = next_turn plan (suc base) k (omega (arith, good.count)) less in
    let later : slot < next.0 = elim (cases_lt slot next.0) [
      | inl after ↦ after
      | inr not ↦ absurd (none next.0 (omega (arith, next.1.0)) not next.1.2)
    ] in
    omega (arith, later, next.1.1)

kept-told : (plan : FaultPlan) (slot k : ℕ) (ledger : Ledger) → IsGoodPlan plan → k < plan.nodes
    → sender plan (suc slot) ≢ k
    → IsLedgerOf plan slot k ledger
    → IsLedgerOf plan (suc slot) k (with_slot (is_good_slot plan (suc slot)) (is_first_slot plan (suc slot)) ledger)
kept-told plan slot k ledger good less other told =
    let newest : (turn : ℕ) → turn ≤ suc slot → sender plan turn ≡ k → turn ≤ ledger.base =
    λ turn within at. elim (eq-or-lt_of_le within) [
      | inl same ↦ absurd (other (ap (sender plan) (sym same) ∙ at))
      | inr before ↦ told.newest turn (omega arith) at
    ] in
    record {
      within = omega (arith, told.within);
      near = kept-near plan (suc slot) ledger.base k good less (omega (arith, told.within))
          (λ turn after within at. let old = newest turn within at in omega (arith, old));
      owned = told.owned;
      began = told.began;
      newest = newest;
      seen = ap (λ n. (if is_good_slot plan (suc slot) then 1 else 0) + n) told.seen
          ∙ counted-next (is_good_slot plan) ledger.base slot told.within;
      bad = ap (λ n. (if is_first_slot plan (suc slot) then 1 else 0) + n) told.bad
          ∙ counted-next (is_first_slot plan) ledger.base slot told.within;
    }

next-told : (plan : FaultPlan) (slot k : ℕ) (ledger : Ledger) (own entered : Bool) → IsGoodPlan plan → k < plan.nodes
    → (sender plan (suc slot) == k) ≡ own → enters plan (suc slot) k ≡ entered → IsLedgerOf plan slot k ledger
    → IsLedgerOf plan (suc slot) k
    (cond own (opened true (suc slot))
    (cond entered (opened false (suc slot))
    (with_slot (is_good_slot plan (suc slot)) (is_first_slot plan (suc slot)) ledger)))
next-told plan slot k ledger true entered good less turn enter told =
    opened-told plan (suc slot) k good (eqb-true _ _ turn)
next-told plan slot k ledger false true good less turn enter told = entered-told plan (suc slot) k good enter
next-told plan slot k ledger false false good less turn enter told =
    kept-told plan slot k ledger good less (eqb-false _ _ turn) told

first-told : (plan : FaultPlan) (k : ℕ) (own : Bool) → IsGoodPlan plan → (sender plan 0 == k) ≡ own
    → IsLedgerOf plan 0 k (opened own 0)
first-told plan k true good turn = opened-told plan 0 k good (eqb-true _ _ turn)
first-told plan k false good turn = record {
  within = omega arith;
  near = omega (arith, good.count);
  owned = λ own. absurd (both_ways _ refl own);
  began = λ _. inl refl;
  newest = λ turn' within at.
      let none : turn' ≡ 0 = omega arith in
      absurd (eqb-false _ _ turn (ap (sender plan) (sym none) ∙ at));
  seen = none-counted (is_good_slot plan) 0;
  bad = none-counted (is_first_slot plan) 0;
}

pub ledger-told : (plan : FaultPlan) (slot k : ℕ) → IsGoodPlan plan → k < plan.nodes
    → IsLedgerOf plan slot k (ledger_of plan slot k)
ledger-told plan zero k good less = first-told plan k (sender plan 0 == k) good refl
ledger-told plan (suc slot) k good less =
    next-told plan slot k (ledger_of plan slot k) (sender plan (suc slot) == k)
    (enters plan (suc slot) k) good less refl refl (ledger-told plan slot k good less)
