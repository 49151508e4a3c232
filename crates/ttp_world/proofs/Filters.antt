-- What a filter keeps passes its test.
use Rattle.ttp_world.proofs.Words.{◌≡◌, ℕ, ◌<◌, Bool, true, false, cond, List, [], ◌∷◌, refl, AllByRecursion, filter}
use Rattle.ttp_world.proofs.Words.{below}
use Rattle.ttp_base.proofs.Below.{below-lt}

kept : {X : Type 0} (P : X → Type 0) (p : X → Bool) (x : X) (xs : List X) (b : Bool) → p x ≡ b → P x
    → AllByRecursion (λ y. P y × (p y ≡ true)) xs
    → AllByRecursion (λ y. P y × (p y ≡ true)) (cond b (x ∷ xs) xs)
kept P p x xs true passes holds rest = ((holds, passes), rest)
kept P p x xs false fails holds rest = rest

pub each-filter : {X : Type 0} (P : X → Type 0) (p : X → Bool) (xs : List X) → AllByRecursion P xs
    → AllByRecursion (λ y. P y × (p y ≡ true)) (filter p xs)
each-filter P p [] each = tt
each-filter P p (x ∷ xs) each = kept P p x (filter p xs) (p x) refl each.0 (each-filter P p xs each.1)

pub each-sieve : (p : ℕ → Bool) (n : ℕ) → AllByRecursion (λ k. (k < n) × (p k ≡ true)) (filter p (below n))
each-sieve p n = each-filter (λ k. k < n) p (below n) (below-lt n)
