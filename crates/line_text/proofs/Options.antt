-- Where a reading under a condition gives a value.
use Rattle.std.proofs.Common.{◌≡◌, Bool, true, false, cond, Option, Some, None, refl, subst}

pub guarded : {A : Type 0} (b : Bool) (r : Option A) (y : A) → cond b r None ≡ Some y → (b ≡ true) × (r ≡ Some y)
guarded true r y e = (refl, e)
guarded false r y e = cc

-- one of two readings
pub chosen : {A : Type 0} (P : A → Type 0) (b : Bool) (x : A) (r : Option A) (y : A) → (b ≡ true → P x)
    → (r ≡ Some y → P y) → cond b (Some x) r ≡ Some y → P y
chosen P true x r y one other e = let same : x ≡ y = cc in subst P same (one refl)
chosen P false x r y one other e = other e

pub some_same : {A : Type 0} (x y : A) → Some x ≡ Some y → x ≡ y
some_same x y e = cc
