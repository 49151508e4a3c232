-- Where no node becomes faulty near a slot, the nodes that are faulty in it have been so for two rounds.
use Rattle.hypothesis.proofs.Words.{◌≡◌, ℕ, zero, suc, ◌+◌, ◌<◌, ◌≤◌, Bool, true, false, not, ◌&&◌, ◌||◌, List, [], ◌∷◌}
use Rattle.hypothesis.proofs.Words.{length, ◌⊎◌, inl, inr, refl, ap, sym, ◌∙◌, arith, ◌==◌, nat_lt, nat_le, list_any}
use Rattle.hypothesis.proofs.Words.{cases_eq, cond_both, nat_tests, has_node, Medl, Script, ClusterStart, FaultyNode}
use Rattle.hypothesis.proofs.Words.{numbers_of, slots_before, faulty_since, faulty_at, four_rounds, is_near_fault}
use Rattle.hypothesis.proofs.Words.{is_apart, is_long_faulty, all_in, joined_in, or-true, and-true}
use Rattle.std.specs.List.{filter}
use Rattle.std.proofs.lemmas.Bool.{both_ways, not-false, not-true}
use Rattle.std.proofs.lemmas.List.Folds.{list_any-append}
use Rattle.ttp_world.specs.Returning.{is_forgiven, joinings}
use Rattle.ttp_world.specs.Returning.{two_rounds}
use Rattle.ttp_world.proofs.SmallTests.{or_parts}

-- a slot of one of these
abbrev lies_in : (ℕ → Bool) → List FaultyNode → Bool
lies_in p faulty = list_any (λ (f : FaultyNode). p f.slot) faulty

abbrev joined_before : Medl → Script → ClusterStart → ℕ → List FaultyNode
joined_before list script start t = joinings (slots_before list script start t)

pub few-zero : (n : ℕ) → nat_lt 0 n ≡ false → n ≡ 0
few-zero zero none = refl
few-zero (suc n) none = grind arith

pub some-many : (n : ℕ) → nat_lt 0 n ≡ true → 0 < n
some-many zero some = grind arith
some-many (suc n) some = omega arith

-- Those of one slot.

lies-not : (p : ℕ → Bool) (t : ℕ) (ks : List ℕ) → p t ≡ false → lies_in p (all_in t ks) ≡ false
lies-not p t [] not_here = refl
lies-not p t (k ∷ ks) not_here = rw not_here (lies-not p t ks not_here)

lies-nobody : (p : ℕ → Bool) (t : ℕ) (ks : List ℕ) → length ks ≡ 0 → lies_in p (all_in t ks) ≡ false
lies-nobody p t [] none = refl
lies-nobody p t (k ∷ ks) none = absurd (omega arith)

lies-here : (p : ℕ → Bool) (t : ℕ) (ks : List ℕ) → p t ≡ true → 0 < length ks → lies_in p (all_in t ks) ≡ true
lies-here p t [] here some = absurd (omega arith)
lies-here p t (k ∷ ks) here some = rw here refl

-- Those of the first slots.

pub joined-none : (list : Medl) (script : Script) (start : ClusterStart) (p : ℕ → Bool) (slots : ℕ)
    → ((t : ℕ) → t < slots → (p t ≡ false) ⊎ (length (joined_in list script start t) ≡ 0))
    → lies_in p (joined_before list script start slots) ≡ false
joined-none list script start p zero each = refl
joined-none list script start p (suc t) each =
    rw (list_any-append (λ (f : FaultyNode). p f.slot) (all_in t (joined_in list script start t))
    (joined_before list script start t)) (rw (now (each t (omega arith)))
    (joined-none list script start p t (λ s less. each s (omega arith))))
  where
    now : (p t ≡ false) ⊎ (length (joined_in list script start t) ≡ 0)
        → lies_in p (all_in t (joined_in list script start t)) ≡ false
    now (inl away) = lies-not p t (joined_in list script start t) away
    now (inr none) = lies-nobody p t (joined_in list script start t) none

pub joined-some : (list : Medl) (script : Script) (start : ClusterStart) (p : ℕ → Bool) (slots t : ℕ) → t < slots
    → p t ≡ true → 0 < length (joined_in list script start t) → lies_in p (joined_before list script start slots) ≡ true
joined-some list script start p zero t less here some = absurd (omega arith)
joined-some list script start p (suc s) t less here some =
    list_any-append (λ (f : FaultyNode). p f.slot) (all_in s (joined_in list script start s))
    (joined_before list script start s) ∙ elim (cases_eq t s) [
      | inl same ↦
          ap (λ b. b || lies_in p (joined_before list script start s))
          (lies-here p s (joined_in list script start s) (ap p (sym same) ∙ here) (some_at same))
      | inr other ↦
          ap (λ b. lies_in p (all_in s (joined_in list script start s)) || b)
          (joined-some list script start p s t (omega (arith, other)) here some)
          ∙ or-true (lies_in p (all_in s (joined_in list script start s)))
    ]
  where
    some_at : t ≡ s → 0 < length (joined_in list script start s)
    some_at same =
        let as_many : length (joined_in list script start t) ≡ length (joined_in list script start s) =
        ap (λ r. length (joined_in list script start r)) same in
        omega (arith, some, as_many)

-- A faulty node became so.

filter-none : (q p : FaultyNode → Bool) (faulty : List FaultyNode) → list_any q faulty ≡ false
    → list_any q (filter p faulty) ≡ false
filter-none q p [] none = refl
filter-none q p (f ∷ faulty) none =
    let parts = or_parts (q f) (list_any q faulty) none in
    let rest = filter-none q p faulty parts.1 in
    cond_both (p f) (f ∷ filter p faulty) (filter p faulty) (λ (kept : List FaultyNode). list_any q kept ≡ false)
    (λ stays. rw parts.0 rest) (λ goes. rest)

since-none : (list : Medl) (script : Script) (start : ClusterStart) (p : ℕ → Bool) (slots : ℕ)
    → lies_in p (joined_before list script start slots) ≡ false
    → lies_in p (faulty_since (slots_before list script start slots)) ≡ false
since-none list script start p zero none = refl
since-none list script start p (suc t) none =
    let made = all_in t (joined_in list script start t) in
    let q : FaultyNode → Bool = λ f. p f.slot in
    let parts =
    or_parts (lies_in p made) (lies_in p (joined_before list script start t))
    (sym (list_any-append q made (joined_before list script start t)) ∙ none) in
    list_any-append q made (faulty_at list script start t)
    ∙ ap (λ b. b || lies_in p (faulty_at list script start t)) parts.0
    ∙ filter-none q (λ (f : FaultyNode). not (is_forgiven list script (slots_before list script start t) t f.node))
    (faulty_since (slots_before list script start t)) (since-none list script start p t parts.1)

at-none : (list : Medl) (script : Script) (start : ClusterStart) (p : ℕ → Bool) (slot : ℕ)
    → lies_in p (joined_before list script start slot) ≡ false → lies_in p (faulty_at list script start slot) ≡ false
at-none list script start p slot none =
    filter-none (λ (f : FaultyNode). p f.slot)
    (λ (f : FaultyNode). not (is_forgiven list script (slots_before list script start slot) slot f.node))
    (faulty_since (slots_before list script start slot)) (since-none list script start p slot none)

-- All of them for long.

long-all : (k : ℕ) (good : ℕ → Bool) (faulty : List FaultyNode) → lies_in (λ t. not (good t)) faulty ≡ false
    → list_any (λ (f : FaultyNode). (f.node == k) && good f.slot) faulty ≡ has_node (numbers_of faulty) k
long-all k good [] none = refl
long-all k good (f ∷ faulty) none =
    let parts = or_parts (not (good f.slot)) (lies_in (λ t. not (good t)) faulty) none in
    ap (λ b. ((f.node == k) && b) || list_any (λ (f : FaultyNode). (f.node == k) && good f.slot) faulty)
    (not-false (good f.slot) parts.0)
    ∙ ap (λ b. b || list_any (λ (f : FaultyNode). (f.node == k) && good f.slot) faulty) (and-true (f.node == k))
    ∙ ap (λ b. (f.node == k) || b) (long-all k good faulty parts.1)

early-good : (gap many slot t : ℕ) → t < slot → 0 < many → (nat_lt slot (t + gap) && nat_lt t (slot + many)) ≡ false
    → not (nat_le (t + gap) slot) ≡ false
early-good gap many slot t less some far = grind (arith, nat_tests)

nothing-or-some : (n : ℕ) → (n ≡ 0) ⊎ (0 < n)
nothing-or-some n = grind arith

not-both : (b : Bool) → (b ≡ true → ⊥) → b ≡ false
not-both true never = absurd (never refl)
not-both false never = refl

pub long-faulty : (list : Medl) (script : Script) (start : ClusterStart) (k slot : ℕ) → slot ≤ script.slots
    → 0 < four_rounds list → is_apart list script start slot ≡ true
    → is_long_faulty list script start k slot ≡ has_node (numbers_of (faulty_at list script start slot)) k
long-faulty list script start k slot within some apart =
    let good : ℕ → Bool = λ t. nat_le (t + two_rounds list) slot in
    long-all k good (faulty_at list script start slot) (at-none list script start (λ t. not (good t)) slot
    (joined-none list script start (λ t. not (good t)) slot (λ t less. each t less
    (nothing-or-some (length (joined_in list script start t))))))
  where
    far : lies_in (is_near_fault list slot) (joined_before list script start script.slots) ≡ false
    far = not-true (lies_in (is_near_fault list slot) (joined_before list script start script.slots)) apart

    each : (t : ℕ) → t < slot
        → (length (joined_in list script start t) ≡ 0) ⊎ (0 < length (joined_in list script start t))
        → (not (nat_le (t + two_rounds list) slot) ≡ false) ⊎ (length (joined_in list script start t) ≡ 0)
    each t less (inl none) = inr none
    each t less (inr joins) =
        inl (early-good (two_rounds list) (four_rounds list) slot t less some
        (not-both (is_near_fault list slot t) (λ near.
        both_ways (lies_in (is_near_fault list slot) (joined_before list script start script.slots)) far
        (joined-some list script start (is_near_fault list slot) script.slots t (omega arith) near joins))))
