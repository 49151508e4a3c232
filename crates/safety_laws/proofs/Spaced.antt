-- The faulty nodes of a script that keeps the rule on distances.
use Rattle.safety_laws.proofs.PlanWords.{◌≡◌, ℕ, ◌+◌, ◌<◌, ◌≤◌, Bool, true, false}
use Rattle.safety_laws.proofs.PlanWords.{cond, List, [], ◌∷◌, ◌++◌, map, Option}
use Rattle.safety_laws.proofs.PlanWords.{Some, None, ◌⊎◌, refl, ap, sym, subst, ◌∙◌}
use Rattle.safety_laws.proofs.PlanWords.{inl, inr, arith, nat_lt, AllByRecursion}
use Rattle.safety_laws.proofs.PlanWords.{none-some, FaultyNode, numbers_of}
use Rattle.std.proofs.Common.{reverse}
use Rattle.std.proofs.lemmas.Bool.{ltb-false}
use Rattle.std.proofs.lemmas.Grind.{reverse_onto}
use Rattle.ttp_world.specs.Hypothesis.{first_too_early}

-- Faulty nodes, the newest first, that became faulty some way apart, and none before a slot.

abbrev pub IsSpaced : ℕ → ℕ → List FaultyNode → Type 0
IsSpaced gap earliest [] = Unit {0}
IsSpaced gap earliest (f ∷ faulty) =
    (earliest ≤ f.slot) × AllByRecursion (λ g. g.slot + gap ≤ f.slot) faulty × IsSpaced gap earliest faulty

not-early : (b : Bool) (x : ℕ) (rest : Option ℕ) → cond b (Some x) rest ≡ None → (b ≡ false) × (rest ≡ None)
not-early true x rest none = absurd (none-some x (sym none))
not-early false x rest none = (refl, none)

-- the last of some slots, none of which is too early
last-late : (gap earliest x : ℕ) (xs : List ℕ) → first_too_early gap earliest (xs ++ x ∷ []) ≡ None
    → (first_too_early gap earliest xs ≡ None) × (earliest ≤ x) × AllByRecursion (λ y. y + gap ≤ x) xs
last-late gap earliest x [] none =
    let parts = not-early (nat_lt x earliest) x None none in
    (refl, ltb-false _ _ parts.0, tt)
last-late gap earliest x (y ∷ ys) none =
    let parts = not-early (nat_lt y earliest) y (first_too_early gap (y + gap) (ys ++ x ∷ [])) none in
    let rest = last-late gap (y + gap) x ys parts.1 in
    let from : earliest ≤ y = ltb-false _ _ parts.0 in
    let here : nat_lt y earliest ≡ false = parts.0 in
    (rw here rest.0, omega (arith, from, rest.1), (rest.1, rest.2))

pub each-split : {X : Type 0} (P : X → Type 0) (xs ys : List X) → AllByRecursion P (xs ++ ys)
    → AllByRecursion P xs × AllByRecursion P ys
each-split P [] ys each = (tt, each)
each-split P (x ∷ xs) ys each =
    let rest = each-split P xs ys each.1 in
    ((each.0, rest.0), rest.1)

each-turned : (P : ℕ → Type 0) (faulty : List FaultyNode) → AllByRecursion P (reverse (map (λ f. f.slot) faulty))
    → AllByRecursion (λ f. P f.slot) faulty
each-turned P [] each = tt
each-turned P (f ∷ faulty) each =
    let slots = map (λ (g : FaultyNode). g.slot) faulty in
    let parts =
    each-split P (reverse slots) (f.slot ∷ []) (subst (AllByRecursion P) (reverse_onto slots f.slot []) each) in
    (parts.1.0, each-turned P faulty parts.0)

pub spaced-all : (gap earliest : ℕ) (faulty : List FaultyNode)
    → first_too_early gap earliest (reverse (map (λ f. f.slot) faulty)) ≡ None → IsSpaced gap earliest faulty
spaced-all gap earliest [] none = tt
spaced-all gap earliest (f ∷ faulty) none =
    let slots = map (λ (g : FaultyNode). g.slot) faulty in
    let parts =
    last-late gap earliest f.slot (reverse slots)
    (ap (first_too_early gap earliest) (sym (reverse_onto slots f.slot [])) ∙ none) in
    (parts.1, each-turned (λ y. y + gap ≤ f.slot) faulty parts.2, spaced-all gap earliest faulty parts.0)

pub spaced-later : (gap earliest : ℕ) (newer faulty : List FaultyNode) → IsSpaced gap earliest (newer ++ faulty)
    → IsSpaced gap earliest faulty
spaced-later gap earliest [] faulty spaced = spaced
spaced-later gap earliest (f ∷ newer) faulty spaced = spaced-later gap earliest newer faulty spaced.2

-- The nodes that a slot makes faulty.

abbrev pub all_in : ℕ → List ℕ → List FaultyNode
all_in slot ks = map (λ k. record { slot = slot; node = k }) ks

pub numbers-next : (slot : ℕ) (ks : List ℕ) (faulty : List FaultyNode)
    → numbers_of (all_in slot ks ++ faulty) ≡ ks ++ numbers_of faulty
numbers-next slot [] faulty = refl
numbers-next slot (k ∷ ks) faulty = ap (λ rest. k ∷ rest) (numbers-next slot ks faulty)

-- what a slot makes faulty, where faults lie apart: nothing, or one node some way after all others
pub record IsOneMade (gap earliest slot k : ℕ) (made : List ℕ) (faulty : List FaultyNode) : Type 0 where
  pub only : made ≡ k ∷ []
  pub late : earliest ≤ slot
  pub apart : AllByRecursion (λ g. g.slot + gap ≤ slot) faulty

pub one-made : (gap earliest slot : ℕ) (made : List ℕ) (faulty : List FaultyNode) → 0 < gap
    → IsSpaced gap earliest (all_in slot made ++ faulty)
    → (made ≡ []) ⊎ ((k : ℕ) × IsOneMade gap earliest slot k made faulty)
one-made gap earliest slot [] faulty some spaced = inl refl
one-made gap earliest slot (k ∷ []) faulty some spaced =
    inr (k, record { only = refl; late = spaced.0; apart = spaced.1 })
one-made gap earliest slot (k ∷ j ∷ made) faulty some spaced =
    let soon : slot + gap ≤ slot = spaced.1.0 in
    absurd (omega arith)
