-- Entries in an order by level and node, the newest first.
use Rattle.std.proofs.Common.{◌≡◌, ℕ, ◌+◌, ◌<◌, ◌++◌, ◌==◌, ◌||◌, ◌⊎◌, inl, inr}
use Rattle.std.proofs.Common.{Bool, true, false, List, [], ◌∷◌, ap, sym, subst}
use Rattle.std.proofs.Common.{refl, arith}
use Rattle.std.proofs.lemmas.Bool.{and_parts, false≢true}
use Rattle.std.proofs.lemmas.Bool.Decides.{nat_tests}
use Rattle.std.specs.List.{AllByRecursion}
use Rattle.causes.specs.Story.{has_spot, is_spot}
use Rattle.causes.specs.declared.cause.Spot.{Spot}
use Rattle.ttp_world.proofs.LineLists.{each-append}
use Rattle.ttp_world.proofs.SmallTests.{both}

-- Spots that compare as equal are equal.

same-number : (a b : ℕ) → (a == b) ≡ true → a ≡ b
same-number a b is = grind (arith, nat_tests)

pub is_spot-same : (a b : Spot) → is_spot a b ≡ true → a ≡ b
is_spot-same a b is =
    let two = and_parts (a.slot == b.slot) (a.node == b.node) is in
    let slot : a.slot ≡ b.slot = same-number a.slot b.slot two.0 in
    let node : a.node ≡ b.node = same-number a.node b.node two.1 in
    λ i. record { slot = slot i; node = node i }

equal-number : (a : ℕ) → (a == a) ≡ true
equal-number a = grind (arith, nat_tests)

pub is_spot-self : (a : Spot) → is_spot a a ≡ true
is_spot-self a = both (a.slot == a.slot) (a.node == a.node) (equal-number a.slot) (equal-number a.node)

-- Among some.

pub or-left : (a b : Bool) → a ≡ true → (a || b) ≡ true
or-left true b is = refl
or-left false b is = absurd (false≢true is)

pub or-right : (a b : Bool) → b ≡ true → (a || b) ≡ true
or-right true b is = refl
or-right false b is = is

pub or-cases : (a b : Bool) → (a || b) ≡ true → (a ≡ true) ⊎ (b ≡ true)
or-cases true b is = inl refl
or-cases false b is = inr is

pub has-here : (s : Spot) (spots : List Spot) → has_spot (s ∷ spots) s ≡ true
has-here s spots = or-left (is_spot s s) (has_spot spots s) (is_spot-self s)

-- it is the first, or among the others
pub has-cases : (e s : Spot) (spots : List Spot) → has_spot (s ∷ spots) e ≡ true → (e ≡ s) ⊎ (has_spot spots e ≡ true)
has-cases e s spots has = first (is_spot e s) refl has
  where
    first : (b : Bool) → is_spot e s ≡ b → (b || has_spot spots e) ≡ true → (e ≡ s) ⊎ (has_spot spots e ≡ true)
    first true is has = inl (is_spot-same e s is)
    first false is has = inr has

pub has-more : (e s : Spot) (spots : List Spot) → has_spot spots e ≡ true → has_spot (s ∷ spots) e ≡ true
has-more e s spots has = or-right (is_spot e s) (has_spot spots e) has

pub has-append-left : (e : Spot) (xs ys : List Spot) → has_spot xs e ≡ true → has_spot (xs ++ ys) e ≡ true
has-append-left e [] ys has = absurd (false≢true has)
has-append-left e (x ∷ xs) ys has = elim (has-cases e x xs has) [
  | inl same ↦ subst (λ (y : Spot). has_spot (y ∷ (xs ++ ys)) e ≡ true) same (has-here e (xs ++ ys))
  | inr more ↦ has-more e x (xs ++ ys) (has-append-left e xs ys more)
]

pub has-append-right : (e : Spot) (xs ys : List Spot) → has_spot ys e ≡ true → has_spot (xs ++ ys) e ≡ true
has-append-right e [] ys has = has
has-append-right e (x ∷ xs) ys has = has-more e x (xs ++ ys) (has-append-right e xs ys has)

pub has-append-cases : (e : Spot) (xs ys : List Spot) → has_spot (xs ++ ys) e ≡ true
    → (has_spot xs e ≡ true) ⊎ (has_spot ys e ≡ true)
has-append-cases e [] ys has = inr has
has-append-cases e (x ∷ xs) ys has = elim (has-cases e x (xs ++ ys) has) [
  | inl same ↦ inl (subst (λ (y : Spot). has_spot (y ∷ xs) e ≡ true) same (has-here e xs))
  | inr more ↦ elim (has-append-cases e xs ys more) [
    | inl first ↦ inl (has-more e x xs first)
    | inr second ↦ inr second
  ]
]

-- what holds of each holds of one among them
pub each-has : (P : Spot → Type 0) (spots : List Spot) (e : Spot)
    → AllByRecursion P spots → has_spot spots e ≡ true → P e
each-has P [] e all has = absurd (false≢true has)
each-has P (s ∷ spots) e all has = elim (has-cases e s spots has) [
  | inl same ↦ subst P (sym same) all.0
  | inr more ↦ each-has P spots e all.1 more
]

pub each-weaker : {X : Type 0} (P Q : X → Type 0) (xs : List X) → ((x : X) → P x → Q x) → AllByRecursion P xs
    → AllByRecursion Q xs
each-weaker P Q [] gives all = tt
each-weaker P Q (x ∷ xs) gives all = (gives x all.0, each-weaker P Q xs gives all.1)

-- Order: by level, and of one level by node.

module _ (level : Spot → ℕ) where
  abbrev pub IsBefore : Spot → Spot → Type 0
  IsBefore a b = (level a < level b) ⊎ ((level a ≡ level b) × (a.node < b.node))

  abbrev pub Falls : List Spot → Type 0
  Falls [] = Unit {0}
  Falls (s ∷ older) = AllByRecursion (λ o. IsBefore o s) older × Falls older

  pub not-itself : (a b : Spot) → IsBefore a b → a ≡ b → ⊥
  not-itself a b (inl less) same = let is : level a ≡ level b = ap level same in omega (arith, less, is)
  not-itself a b (inr equal) same =
      let is : a.node ≡ b.node = ap (λ (s : Spot). s.node) same in
      let less : a.node < b.node = equal.1 in
      omega (arith, less, is)

  pub not-above : (a b : Spot) → IsBefore a b → level b < level a → ⊥
  not-above a b (inl less) other = omega (arith, less, other)
  not-above a b (inr equal) other = let is : level a ≡ level b = equal.0 in omega (arith, is, other)

  -- all before each of some
  each-before : (xs ys : List Spot)
      → AllByRecursion (λ x. AllByRecursion (λ y. IsBefore y x) ys) xs → Falls xs → Falls ys
      → Falls (xs ++ ys)
  each-before [] ys across first second = second
  each-before (x ∷ xs) ys across first second =
      (each-append (λ o. IsBefore o x) xs ys first.0 across.0, each-before xs ys across.1 first.1 second)

  -- by a bound between them
  pub falls-between : (n : ℕ) (xs ys : List Spot) → Falls xs → Falls ys → AllByRecursion (λ x. n < level x + 1) xs
      → AllByRecursion (λ y. level y < n) ys → Falls (xs ++ ys)
  falls-between n xs ys first second high low =
      each-before xs ys
      (each-weaker (λ x. n < level x + 1) (λ x. AllByRecursion (λ y. IsBefore y x) ys) xs
      (λ x over. each-weaker (λ y. level y < n) (λ y. IsBefore y x) ys
      (λ y under. inl (omega (arith, over, under))) low) high)
      first second
