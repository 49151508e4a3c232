-- Memberships in their order, two by two.
use Rattle.std.proofs.Common.{◌≡◌, ℕ, suc, Bool, true, false, ◌&&◌, List, [], ◌∷◌, length, refl, ap, sym, ◌∙◌}
use Rattle.std.specs.Prelude.{◌==◌}
use Rattle.std.proofs.lemmas.Bool.{false≢true, eq-eqb}
use Rattle.std.specs.Str.{bytes_eq}
use Rattle.clock_margins.specs.Ranges.{are_same_sets}

pub differ : (same : Bool) (m n : ℕ) → same ≡ (m == n) → same ≡ false → m ≡ n → ⊥
differ same m n is other eq = false≢true (sym other ∙ is ∙ eq-eqb m n eq)

-- of different numbers of sets they are not the same
pub other-length : (one other : List (List ℕ)) → (length one ≡ length other → ⊥) → are_same_sets one other ≡ false
other-length [] [] differ = absurd (differ refl)
other-length [] (m ∷ more) differ = refl
other-length (m ∷ more) [] differ = refl
other-length (members ∷ sets) (m ∷ more) differ =
    ap (λ (b : Bool). bytes_eq members m && b) (other-length sets more (λ same. differ (ap suc same)))
    ∙ none (bytes_eq members m)
  where
    none : (b : Bool) → (b && false) ≡ false
    none true = refl
    none false = refl
