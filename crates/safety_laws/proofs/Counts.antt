-- How much a node of a good plan has seen since its own slot.
use Rattle.safety_laws.proofs.PlanWords.{◌≡◌, ℕ, suc, ◌+◌, ◌-◌, ◌*◌, ◌<◌, ◌≤◌, Bool}
use Rattle.safety_laws.proofs.PlanWords.{true, false, length, Some, ◌⊎◌, refl}
use Rattle.safety_laws.proofs.PlanWords.{ap, sym, subst, ◌∙◌, inl, inr, arith, if◌then◌else◌}
use Rattle.safety_laws.proofs.PlanWords.{filter, cases_lt, cases_eq}
use Rattle.safety_laws.proofs.PlanWords.{eqb-true, both_ways, and_parts, and_from, false_from_ne_true, below, same_Some}
use Rattle.safety_laws.proofs.PlanWords.{Change, Incident, FaultPlan, sender, incident_at, enters, Fate, Absent, Sound}
use Rattle.safety_laws.proofs.PlanWords.{Falling, Fallen, Listening, fate_of, is_good_slot, is_first_slot, is_shown_in}
use Rattle.safety_laws.proofs.PlanWords.{is_lasting_after, is_steady_after, steady_nodes, tally, IsGoodPlan, ledger_of}
use Rattle.safety_laws.proofs.PlanWords.{IsLossOf, IsTold}
use Rattle.safety_laws.specs.Fates.{lasting_nodes}
use Rattle.safety_laws.specs.Fates.{is_measured}
use Rattle.safety_laws.proofs.FateTells.{fate-told}
use Rattle.safety_laws.proofs.Ledgers.{ledger-told}
use Rattle.safety_laws.proofs.Persists.{lasting-before}
use Rattle.safety_laws.proofs.Returns.{entry-is}
use Rattle.safety_laws.proofs.Tallies.{count-fewer, count-none, count-one, count-below, count-round}
use Rattle.safety_laws.proofs.Turns.{turns_apart}

-- First own slots of lost nodes.

record IsFirstOf (plan : FaultPlan) (slot : ℕ) : Type 0 where
  change : Change
  since : ℕ
  loss : IsLossOf plan (sender plan slot) change since
  from : since ≤ slot
  soon : slot < since + plan.nodes

first-is : (plan : FaultPlan) (slot : ℕ) (fate : Fate) → IsTold plan slot (sender plan slot) fate
    → is_shown_in slot fate ≡ true → IsFirstOf plan slot
first-is plan slot Absent told first = absurd (both_ways _ refl first)
first-is plan slot Sound told first = absurd (both_ways _ refl first)
first-is plan slot (Falling change since) told first = absurd (both_ways _ refl first)
first-is plan slot (Listening since) told first = absurd (both_ways _ refl first)
first-is plan slot (Fallen change since shown) told first =
    let now : shown ≡ slot = eqb-true _ _ first in
    record {
      change = change;
      since = since;
      loss = told.loss;
      from = omega (arith, told.from.0, now);
      soon = omega (arith, told.soon, now);
    }

first-of : (plan : FaultPlan) (slot : ℕ) → IsGoodPlan plan → is_first_slot plan slot ≡ true → IsFirstOf plan slot
first-of plan slot good first =
    first-is plan slot (fate_of plan slot (sender plan slot)) (fate-told plan slot (sender plan slot) good) first

-- two of them lie a round apart
firsts-apart : (plan : FaultPlan) (slot later : ℕ) → IsGoodPlan plan → slot < later → later < slot + plan.nodes
    → is_first_slot plan slot ≡ true → is_first_slot plan later ≡ true → ⊥
firsts-apart plan slot later good less near one two =
    let first = first-of plan slot good one in
    let second = first-of plan later good two in
    elim (cases_eq first.since second.since) [
      | inl same ↦
          let incident : first.loss.incident ≡ second.loss.incident =
          same_Some _ _ (sym first.loss.found ∙ ap (incident_at plan) same ∙ second.loss.found) in
          let apart =
          turns_apart plan slot later (omega (arith, good.count)) less
          (sym first.loss.node ∙ ap (λ (i : Incident). i.node) incident ∙ second.loss.node) in
          omega (arith, apart)
      | inr other ↦ elim (cases_lt first.since second.since) [
        | inl before ↦
            let apart =
            good.apart first.since second.since first.loss.incident second.loss.incident first.loss.found
            second.loss.found before in
            omega (arith, apart, first.soon, second.from)
        | inr after ↦
            let apart =
            good.apart second.since first.since second.loss.incident first.loss.incident second.loss.found
            first.loss.found (omega (arith, after, other)) in
            omega (arith, apart, second.soon, first.from)
      ]
    ]

pub bad-own : (plan : FaultPlan) (slot k : ℕ) → IsGoodPlan plan → k < plan.nodes → (ledger_of plan slot k).bad ≤ 1
bad-own plan slot k good less =
    let ledger = ledger_of plan slot k in
    let told = ledger-told plan slot k good less in
    subst (λ n. n ≤ 1) (sym told.bad) (count-one (is_first_slot plan) (suc ledger.base) (slot - ledger.base)
    (λ u v above before to one two.
    firsts-apart plan u v good before (omega (arith, told.near, told.within)) one two))

-- In a first round, after the start or after an entry, no loss is near.
loss-far : (plan : FaultPlan) (slot base k since : ℕ) (incident : Incident) → IsGoodPlan plan
    → incident_at plan since ≡ Some incident → (base ≡ 0) ⊎ (enters plan base k ≡ true) → slot < base + plan.nodes
    → since ≤ slot → since + 2 * plan.nodes ≤ base
loss-far plan slot base k since incident good found (inl start) near from =
    let late = good.late since incident found in
    absurd (omega (arith, late, start, near, from, good.count))
loss-far plan slot base k since incident good found (inr enter) near from =
    let entry = entry-is plan base k enter in
    let of_r = good.returns entry.return entry.among in
    let at = entry.entered in
    let after = of_r.after in
    elim (of_r.losses since incident found) [
      | inl early ↦ omega (arith, early, after, at)
      | inr late ↦ absurd (omega (arith, late, at, near, from, good.count))
    ]

pub bad-first : (plan : FaultPlan) (slot k : ℕ) → IsGoodPlan plan → k < plan.nodes → (ledger_of plan slot k).own ≡ false
    → (ledger_of plan slot k).bad ≡ 0
bad-first plan slot k good less none =
    let ledger = ledger_of plan slot k in
    let told = ledger-told plan slot k good less in
    told.bad ∙ count-none (is_first_slot plan) (suc ledger.base) (slot - ledger.base)
    (λ u above to. false_from_ne_true _ (λ first.
    let is = first-of plan u good first in
    let far =
    loss-far plan slot ledger.base k is.since is.loss.incident good is.loss.found (told.began none) told.near
    (omega (arith, is.from, to, told.within)) in
    omega (arith, far, is.soon, above)))

-- Good slots.

-- in each round there are as many good slots, whose senders pass a test, as nodes that pass it and last to its end
good-round : (plan : FaultPlan) (p q : ℕ → Bool) (slot from : ℕ) → from + plan.nodes ≡ suc slot
    → ((u : ℕ) → u ≤ slot → slot < u + plan.nodes → p (sender plan u) ≡ true → q u ≡ true)
    → length (filter p (below plan.nodes)) ≤ tally q from plan.nodes
good-round plan p q slot from is tells =
    let all = count-round plan p from in
    let fewer =
    count-fewer (λ u. p (sender plan u)) q from plan.nodes
    (λ u above to passes. tells u (omega (arith, is)) (omega (arith, is, above)) passes) in
    omega (arith, all, fewer)

pub four-measured : (plan : FaultPlan) (slot from : ℕ) → IsGoodPlan plan → slot < plan.slots
    → from + plan.nodes ≡ suc slot
    → 4 ≤ tally (is_measured plan) from plan.nodes
four-measured plan slot from good within is =
    let steady = good.steady slot within in
    let round =
    good-round plan (is_steady_after plan slot) (is_measured plan) slot from is (λ u to near steady.
    let parts = and_parts _ _ steady in
    and_from _ _ (lasting-before plan u slot (sender plan u) to near parts.1) parts.0) in
    omega (arith, steady, round)

one-more : (b : Bool) (n : ℕ) → (if b then 1 else 0) + n ≤ suc n
one-more true n = omega arith
one-more false n = omega arith

-- one slot fewer than a round
count-front : (p : ℕ → Bool) (from many nodes : ℕ) → nodes ≡ suc many → tally p from nodes ≤ suc (tally p from many)
count-front p from many nodes is =
    subst (λ n. tally p from n ≤ suc (tally p from many)) (sym is) (one-more (p (from + many)) (tally p from many))

pub seen-round : (plan : FaultPlan) (slot k : ℕ) → IsGoodPlan plan → k < plan.nodes → sender plan (suc slot) ≡ k
    → (ledger_of plan slot k).own ≡ true → length (lasting_nodes plan slot) ≤ suc (ledger_of plan slot k).seen
seen-round plan slot k good less turn own =
    let ledger = ledger_of plan slot k in
    let base = ledger.base in
    let n = plan.nodes in
    let told = ledger-told plan slot k good less in
    let p : ℕ → Bool = is_lasting_after plan slot in
    let apart =
    turns_apart plan base (suc slot) (omega (arith, good.count)) (omega (arith, told.within))
    (told.owned own ∙ sym turn) in
    let round : plan.nodes ≡ suc (slot - ledger.base) = omega (arith, apart, told.near, told.within) in
    let all = count-round plan p (suc base) in
    let front = count-front (λ u. p (sender plan u)) (suc base) (slot - base) n round in
    let fewer =
    count-fewer (λ u. p (sender plan u)) (is_good_slot plan) (suc base) (slot - base) (λ u above to lasting.
    lasting-before plan u slot (sender plan u) (omega (arith, to, told.within))
    (omega (arith, above, told.near)) lasting) in
    omega (arith, all, front, fewer, told.seen)

-- of which there are four or more
steady-lasting : (plan : FaultPlan) (slot : ℕ) → length (steady_nodes plan slot) ≤ length (lasting_nodes plan slot)
steady-lasting plan slot =
    let few =
    count-fewer (is_steady_after plan slot) (is_lasting_after plan slot) 0 plan.nodes (λ u above to steady.
    (and_parts _ _ steady).1) in
    let one = count-below (is_steady_after plan slot) plan.nodes in
    let two = count-below (is_lasting_after plan slot) plan.nodes in
    omega (arith, few, one, two)

pub four-lasting : (plan : FaultPlan) (slot : ℕ) → IsGoodPlan plan → slot < plan.slots
    → 4 ≤ length (lasting_nodes plan slot)
four-lasting plan slot good within =
    let steady = good.steady slot within in
    let few = steady-lasting plan slot in
    omega (arith, steady, few)
