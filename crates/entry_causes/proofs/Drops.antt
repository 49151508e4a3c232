-- The end of a list.
use Rattle.std.proofs.Common.{◌≡◌, ℕ, zero, suc, ◌+◌, ◌≤◌, List, [], ◌∷◌, ◌++◌}
use Rattle.std.proofs.Common.{length, drop, Some, refl, ap, ◌∙◌, arith}
use Rattle.std.proofs.Common.{slice_get}

-- what was added
pub drop-added : {X : Type 0} (old more : List X) → drop (length old) (old ++ more) ≡ more
drop-added [] more = refl
drop-added (x ∷ old) more = drop-added old more

-- from an item on
pub drop-next : {X : Type 0} (xs : List X) (at : ℕ) (x : X) → slice_get xs at
    ≡ Some x → drop at xs ≡ x ∷ drop (at + 1) xs
drop-next [] at x is = absurd cc
drop-next (y ∷ xs) zero x is = cc
drop-next (y ∷ xs) (suc at) x is =
    let next : suc (at + 1) ≡ suc at + 1 = omega arith in
    drop-next xs at x is ∙ ap (λ (n : ℕ). x ∷ drop n (y ∷ xs)) next

-- past the end
pub drop-past : {X : Type 0} (xs : List X) (at : ℕ) → length xs ≤ at → drop at xs ≡ []
drop-past [] zero past = refl
drop-past [] (suc at) past = refl
drop-past (x ∷ xs) zero past = absurd (omega (arith, past))
drop-past (x ∷ xs) (suc at) past = drop-past xs at (omega (arith, past))
