-- The lines of a text by their numbers.
use Rattle.std.proofs.Common.{◌≡◌, ℕ, zero, suc, ◌+◌, ◌<◌, ◌≤◌, ◌==◌, false, List}
use Rattle.std.proofs.Common.{[], ◌∷◌, drop, get_or, refl, sym, ap, ◌∙◌, arith}
use Rattle.std.specs.Prelude.{◌-◌}
use Rattle.check_text.specs.Lines.{line_numbered}

next_of : {X : Type 0} (n : ℕ) (xs : List X) (x d : X) (more : List X) → drop n xs ≡ x ∷ more
    → (get_or xs n d ≡ x) × (drop (suc n) xs ≡ more)
next_of zero [] x d more is = absurd cc
next_of {X} zero (y ∷ ys) x d more is = (ap (λ (l : List X). get_or l 0 d) is, ap (λ (l : List X). drop 1 l) is)
next_of (suc n) [] x d more is = absurd cc
next_of (suc n) (y ∷ ys) x d more is = next_of n ys x d more is

past_of : {X : Type 0} (n m : ℕ) (xs : List X) (d : X) → drop n xs ≡ [] → n ≤ m → (get_or xs m d ≡ d) × (drop m xs ≡ [])
past_of zero zero [] d is le = (refl, refl)
past_of zero (suc m) [] d is le = (refl, refl)
past_of zero m (y ∷ ys) d is le = absurd cc
past_of (suc n) zero xs d is le = absurd (omega (arith, le))
past_of (suc n) (suc m) [] d is le = (refl, refl)
past_of (suc n) (suc m) (y ∷ ys) d is le = past_of n m ys d is (omega (arith, le))

numbered : (lines : List (List ℕ)) (n : ℕ) → line_numbered lines (n + 1) ≡ get_or lines n []
numbered lines n =
    let some : (n + 1 == 0) ≡ false = grind arith in
    let before : (n + 1) - 1 ≡ n = omega arith in
    rw (some, before) refl

-- the line behind those that were passed over
pub at_next : (lines : List (List ℕ)) (n : ℕ) (piece : List ℕ) (more : List (List ℕ)) → drop n lines ≡ piece ∷ more
    → (piece ≡ line_numbered lines (n + 1)) × (more ≡ drop (n + 1) lines)
at_next lines n piece more is =
    let step = next_of n lines piece [] more is in
    let next : suc n ≡ n + 1 = omega arith in
    (sym step.0 ∙ sym (numbered lines n), sym step.1 ∙ ap (λ (k : ℕ). drop k lines) next)

-- Past the last line of a text each numbered line is empty, and nothing follows it.
pub at_past : (lines : List (List ℕ)) (n m : ℕ) → drop n lines ≡ [] → n < m
    → ([] ≡ line_numbered lines m) × ([] ≡ drop m lines)
at_past lines n m is less =
    let before : (m - 1) + 1 ≡ m = omega (arith, less) in
    let line = past_of n (m - 1) lines [] is (omega (arith, less)) in
    let rest = past_of n m lines [] is (omega (arith, less)) in
    (sym line.0 ∙ sym (numbered lines (m - 1)) ∙ ap (line_numbered lines) before, sym rest.1)
