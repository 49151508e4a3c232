-- Scripts without reading errors.
use Rattle.hypothesis.proofs.Words.{◌≡◌, ℕ, pos, Bool, true, false, List, [], ◌∷◌, None, refl, ap, ◌∙◌, arith, list_any}
use Rattle.hypothesis.proofs.Words.{filter_map, Event, is_error}
use Rattle.std.specs.List.{cons_option}
use Rattle.ttp_world.specs.Script.{sum_ℤ, error_in}

no_error : (k slot : ℕ) (e : Event) → is_error e ≡ false → error_in k slot e ≡ None
no_error k slot e none = grind arith

no_errors-step : (k slot : ℕ) (e : Event) (events : List Event) (b : Bool) → is_error e ≡ b
    → list_any is_error (e ∷ events) ≡ false
    → (list_any is_error events ≡ false → filter_map (error_in k slot) events ≡ [])
    → filter_map (error_in k slot) (e ∷ events) ≡ []
no_errors-step k slot e events true is none later = absurd (grind arith)
no_errors-step k slot e events false is none later =
    ap (λ found. cons_option found (filter_map (error_in k slot) events)) (no_error k slot e is)
    ∙ later (grind arith)

no_errors : (k slot : ℕ) (events : List Event) → list_any is_error events ≡ false
    → filter_map (error_in k slot) events ≡ []
no_errors k slot [] none = refl
no_errors k slot (e ∷ events) none =
    no_errors-step k slot e events (is_error e) refl none (no_errors k slot events)

-- the errors of a node in a slot add up to nothing
pub no_errors-sum : (k slot : ℕ) (events : List Event) → list_any is_error events ≡ false
    → sum_ℤ (filter_map (error_in k slot) events) ≡ pos 0
no_errors-sum k slot events none = ap sum_ℤ (no_errors k slot events none)
