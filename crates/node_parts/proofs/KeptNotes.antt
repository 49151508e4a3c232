-- The last four of some notes, the newest first, in four places.
use Rattle.std.proofs.Common.{◌≡◌, ℕ, zero, suc, ◌+◌, ◌<◌, ◌≤◌, min, ℤ, pos, [], ◌∷◌, take, refl, arith}
use Rattle.ttp_world.specs.Clock.{fta}

-- one note more
pub kept_with : (count : ℕ) (d a b c e : ℤ) → count ≤ 4
    → take (min (count + 1) 4) (d ∷ a ∷ b ∷ c ∷ []) ≡ take 4 (d ∷ take count (a ∷ b ∷ c ∷ e ∷ []))
kept_with zero d a b c e few = refl
kept_with (suc zero) d a b c e few = refl
kept_with (suc (suc zero)) d a b c e few = refl
kept_with (suc (suc (suc zero))) d a b c e few = refl
kept_with (suc (suc (suc (suc zero)))) d a b c e few = refl
kept_with (suc (suc (suc (suc (suc n))))) d a b c e few = absurd (omega (arith, few))

-- all four hold one
pub four_kept : (count : ℕ) (a b c d : ℤ) → 4 ≤ count → count ≤ 4
    → take count (a ∷ b ∷ c ∷ d ∷ []) ≡ a ∷ b ∷ c ∷ d ∷ []
four_kept zero a b c d enough few = absurd (omega (arith, enough))
four_kept (suc zero) a b c d enough few = absurd (omega (arith, enough))
four_kept (suc (suc zero)) a b c d enough few = absurd (omega (arith, enough))
four_kept (suc (suc (suc zero))) a b c d enough few = absurd (omega (arith, enough))
four_kept (suc (suc (suc (suc zero)))) a b c d enough few = refl
four_kept (suc (suc (suc (suc (suc n))))) a b c d enough few = absurd (omega (arith, few))

-- The average.

pub fta-few : (count : ℕ) (a b c d : ℤ) → count < 4 → fta (take count (a ∷ b ∷ c ∷ d ∷ [])) ≡ pos 0
fta-few zero a b c d few = refl
fta-few (suc zero) a b c d few = refl
fta-few (suc (suc zero)) a b c d few = refl
fta-few (suc (suc (suc zero))) a b c d few = refl
fta-few (suc (suc (suc (suc n)))) a b c d few = absurd (omega (arith, few))
