-- Tests that are joined with a known one, and incidents that are never found.
use Rattle.safety_laws.proofs.PlanWords.{◌≡◌, Bool, true, false, ◌||◌, Option, Some, None, refl}

pub or-false : (b : Bool) → b ≡ (b || false)
or-false true = refl
or-false false = refl

-- what is never found is not there
pub never-found : {X : Type 0} (found : Option X) → ((x : X) → found ≡ Some x → ⊥) → found ≡ None
never-found None never = refl
never-found (Some x) never = absurd (never x refl)
