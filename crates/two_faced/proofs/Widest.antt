-- How far clocks are apart, by how far any two of them are.
use Rattle.two_faced.proofs.Words.{◌≡◌, ℤ, pos, ◌-ℤ◌, ◌≤ℤ◌, Bool, true, false, cond, List, [], ◌∷◌, Option, Some, None}
use Rattle.two_faced.proofs.Words.{refl, arith, int_max, AllByRecursion, filter_map, ints, none-some, greatest, least}
use Rattle.two_faced.proofs.Words.{widest}
use Rattle.std.specs.Int.{int_min}

all-map : {X : Type 0} (P Q : X → Type 0) (xs : List X) → ((x : X) → P x → Q x) → AllByRecursion P xs
    → AllByRecursion Q xs
all-map P Q [] of all = tt
all-map P Q (x ∷ xs) of all = (of x all.0, all-map P Q xs of all.1)

greatest_within : (b u z : ℤ) (zs : List ℤ) → (z -ℤ u) ≤ℤ b → AllByRecursion (λ x. (x -ℤ u) ≤ℤ b) zs
    → (greatest z zs -ℤ u) ≤ℤ b
greatest_within b u z [] h all = h
greatest_within b u z (x ∷ xs) h all = greatest_within b u (int_max z x) xs (grind (arith, ints, all.0)) all.1

least_within : (b g z : ℤ) (zs : List ℤ) → (g -ℤ z) ≤ℤ b → AllByRecursion (λ x. (g -ℤ x) ≤ℤ b) zs
    → (g -ℤ least z zs) ≤ℤ b
least_within b g z [] h all = h
least_within b g z (x ∷ xs) h all = least_within b g (int_min z x) xs (grind (arith, ints, all.0)) all.1

-- where any two of them are within b
pub widest_within : (b : ℤ) (zs : List ℤ) → pos 0 ≤ℤ b
    → AllByRecursion (λ u. AllByRecursion (λ x. (x -ℤ u) ≤ℤ b) zs) zs → widest zs ≤ℤ b
widest_within b [] up all = up
widest_within b (z ∷ zs) up all =
    let below = all-map (λ u. AllByRecursion (λ x. (x -ℤ u) ≤ℤ b) (z ∷ zs)) (λ u. (greatest z zs -ℤ u) ≤ℤ b) (z ∷ zs)
    (λ u each. greatest_within b u z zs each.0 each.1) all in
    least_within b (greatest z zs) z zs below.0 below.1

-- what a choice makes of some values
each-chosen : {X : Type 0} (f : X → Option ℤ) (P : X → Type 0) (Q : ℤ → Type 0) (xs : List X)
    → ((x : X) (v : ℤ) → P x → f x ≡ Some v → Q v) → AllByRecursion P xs → AllByRecursion Q (filter_map f xs)
each-chosen f P Q [] of all = tt
each-chosen f P Q (x ∷ xs) of all = by (f x) refl (each-chosen f P Q xs of all.1)
  where
    by : (found : Option ℤ) → f x ≡ found → AllByRecursion Q (filter_map f xs)
        → AllByRecursion Q (filter_map f (x ∷ xs))
    by None is rest = rw is rest
    by (Some v) is rest = rw is (of x v all.0 is, rest)

-- of chosen values any two are within b, where they are of some that are
pub chosen_within : {X : Type 0} (f : X → Option ℤ) (P : X → Type 0) (b : ℤ) (xs : List X) → AllByRecursion P xs
    → ((x y : X) (u v : ℤ) → P x → P y → f x ≡ Some u → f y ≡ Some v → (v -ℤ u) ≤ℤ b)
    → AllByRecursion (λ u. AllByRecursion (λ v. (v -ℤ u) ≤ℤ b) (filter_map f xs)) (filter_map f xs)
chosen_within f P b xs all near =
    each-chosen f P (λ u. AllByRecursion (λ v. (v -ℤ u) ≤ℤ b) (filter_map f xs)) xs
    (λ x u here is. each-chosen f P (λ v. (v -ℤ u) ≤ℤ b) xs (λ y v there was. near x y u v here there is was) all) all

-- a value that is chosen where a test holds
pub chosen_where : (b : Bool) (x v : ℤ) → cond b (Some x) None ≡ Some v → (b ≡ true) × (x ≡ v)
chosen_where true x v is = (refl, cc)
chosen_where false x v is = absurd (none-some v is)
