-- A script that keeps the list's bounds of clocks: each drift, and each sum of reading errors in a slot of the run, is
-- within its bound.
use Rattle.std.proofs.Common.{◌≡◌, ℕ, ◌<◌, ℤ, Bool, true, false, not, ◌&&◌, List}
use Rattle.std.proofs.Common.{[], ◌∷◌, length, Option, Some, None, refl, cond, arith}
use Rattle.std.specs.Prelude.{find}
use Rattle.std.specs.List.{list_all}
use Rattle.std.proofs.lemmas.Int.{ints}
use Rattle.ttp_base.specs.NodeSet.{below}
use Rattle.ttp_base.proofs.Below.{each-below}
use Rattle.ttp_world.specs.declared.medl.Medl.{Medl}
use Rattle.ttp_world.specs.declared.script.Script.{Script}
use Rattle.ttp_world.specs.Hypothesis.{is_within_bound, drifts_hold, errors_hold_in, clocks_broken}
use Rattle.ttp_world.specs.Script.{drift_of, reading_error}
use Rattle.precision.proofs.Averages.{IsUpTo}

-- Tests of numbers in a row.

-- where none is found that fails a test, all pass it
pass_first : (b rest : Bool) (k : ℕ) (found : Option ℕ) → cond (not b) (Some k) found ≡ None
    → (found ≡ None → rest ≡ true) → (b && rest) ≡ true
pass_first true rest k found none later = later none
pass_first false rest k found none later = cc

all_pass : (p : ℕ → Bool) (ks : List ℕ) → find (λ k. not (p k)) ks ≡ None → list_all p ks ≡ true
all_pass p [] none = refl
all_pass p (k ∷ ks) none = pass_first (p k) (list_all p ks) k (find (λ j. not (p j)) ks) none (all_pass p ks)

-- The rule.

pub within_bound : (bound z : ℤ) → is_within_bound bound z ≡ true → IsUpTo bound z
within_bound bound z h = (grind (arith, ints), grind (arith, ints))

broken_by_drifts : (b : Bool) (errors : Option ℕ) → cond b errors (Some 0) ≡ None → b ≡ true
broken_by_drifts true errors none = refl
broken_by_drifts false errors none = cc

broken_by_errors : (b : Bool) (errors : Option ℕ) → cond b errors (Some 0) ≡ None → errors ≡ None
broken_by_errors true errors none = none
broken_by_errors false errors none = cc

pub drift_within : (list : Medl) (script : Script) (k : ℕ) → clocks_broken list script ≡ None → k < length list.slots
    → IsUpTo list.drift (drift_of script k)
drift_within list script k none inside =
    within_bound list.drift (drift_of script k)
    (each-below (λ j. is_within_bound list.drift (drift_of script j)) (length list.slots) k
    (broken_by_drifts (drifts_hold list script) _ none) inside)

pub error_within : (list : Medl) (script : Script) (slot k : ℕ) → clocks_broken list script ≡ None → slot < script.slots
    → k < length list.slots
    → IsUpTo list.error (reading_error script k slot)
error_within list script slot k none early inside =
    let holds : errors_hold_in list script slot ≡ true =
    each-below (errors_hold_in list script) script.slots slot
    (all_pass (errors_hold_in list script) (below script.slots) (broken_by_errors (drifts_hold list script) _ none))
    early in
    within_bound list.error (reading_error script k slot)
    (each-below (λ j. is_within_bound list.error (reading_error script j slot)) (length list.slots) k holds inside)
