-- What is told of values that follow each other.
use Rattle.std.proofs.Common.{◌≡◌, ℕ, zero, suc, ◌+◌, ◌-◌, ◌*◌, ◌≤◌, ℤ, pos, ◌+ℤ◌, List, []}
use Rattle.std.proofs.Common.{◌∷◌, ◌++◌, map, take, drop, length, refl, ap, sym, ◌∙◌, arith}
use Rattle.std.specs.Prelude.{neg_ℤ}
use Rattle.std.proofs.lemmas.List.{map-append, length-map, take-append-drop}
use Rattle.ttp_world.specs.declared.medl.Medl.{Medl}
use Rattle.ttp_world.specs.declared.script.Script.{Script}
use Rattle.clock_margins.specs.declared.margin.Sweep.{Sweep}
use Rattle.clock_margins.specs.MarginText.{tolds_of}
use Rattle.clock_margins.specs.Outcomes.{ValueTold, told_of_value}
use Rattle.clock_margins.specs.Sweeps.{values_from}
use Rattle.margin_runs.proofs.FromBelow.{values-parts}
use Rattle.margin_text.specs.declared.told.Told.{Told}
use Rattle.margin_text.specs.Taken.{value_told}
use Rattle.margin_runs.specs.declared.tried.SweepSetting.{SweepSetting}
use Rattle.margin_runs.specs.Tries.{tolds_from, are_told}
use Rattle.margin_runs.specs.Written.{tolds_so_far}

-- that of two parts of them, one after the other, is that of all
pub halves_told : (list : Medl) (script : Script) (sweep : Sweep)
    (values front back : List ℤ) (n : ℕ) (one other all : List Told)
    → front ≡ take n values → back ≡ drop n values → are_told one ≡ map (told_of_value list script sweep) front
    → are_told other ≡ map (told_of_value list script sweep) back → all ≡ one ++ other
    → are_told all ≡ map (told_of_value list script sweep) values
halves_told list script sweep values front back n one other all is_front is_back first second both =
    let told = told_of_value list script sweep in
    ap are_told both
    ∙ map-append value_told one other
    ∙ (λ i. first i ++ second i)
    ∙ sym (map-append told front back)
    ∙ ap (map told) ((λ i. is_front i ++ is_back i) ∙ take-append-drop n values)

-- one more
pub told-more : (list : Medl) (script : Script) (sweep : Sweep) (values : List ℤ)
    (i : ℕ) (value : ℤ) (before all : List Told)
    (now : Told) → take i values ++ value ∷ [] ≡ take (i + 1) values → all ≡ before ++ now ∷ []
    → are_told before ≡ map (told_of_value list script sweep) (take i values)
    → value_told now ≡ told_of_value list script sweep value
    → are_told all ≡ map (told_of_value list script sweep) (take (i + 1) values)
told-more list script sweep values i value before all now more is was told =
    let each = told_of_value list script sweep in
    ap are_told is
    ∙ map-append value_told before (now ∷ [])
    ∙ (λ j. was j ++ told j ∷ [])
    ∙ sym (map-append each (take i values) (value ∷ []))
    ∙ ap (map each) more

-- Those of a sweep, from the least value on.

tolds-parts : (list : Medl) (script : Script) (sweep : Sweep) (first : ℤ) (a b : ℕ)
    → tolds_from list script sweep first (a + b)
    ≡ tolds_from list script sweep first a ++ tolds_from list script sweep (first +ℤ pos a) b
tolds-parts list script sweep first a b =
    let told = told_of_value list script sweep in
    ap (λ zs. map told zs) (values-parts first a b)
    ∙ map-append told (values_from first a) (values_from (first +ℤ pos a) b)

pub so-far-more : (common : SweepSetting) (sweep : Sweep) (done some : ℕ)
    → tolds_so_far common sweep done
    ++ tolds_from common.list.now common.script.now sweep (neg_ℤ (pos common.reach) +ℤ pos done) some
    ≡ tolds_so_far common sweep (done + some)
so-far-more common sweep done some =
    sym (tolds-parts common.list.now common.script.now sweep (neg_ℤ (pos common.reach)) done some)

-- those behind some of them
pub so-far-rest : (common : SweepSetting) (sweep : Sweep) (done count : ℕ) → done ≤ count
    → (rest : List ValueTold) × (tolds_so_far common sweep count ≡ tolds_so_far common sweep done ++ rest)
so-far-rest common sweep done count less =
    let some = count - done in
    let all : done + some ≡ count = omega (arith, less) in (
      tolds_from common.list.now common.script.now sweep (neg_ℤ (pos common.reach) +ℤ pos done) some,
      sym (so-far-more common sweep done some ∙ ap (tolds_so_far common sweep) all),
    )

-- all of them
pub so-far-all : (common : SweepSetting) (sweep : Sweep) (count : ℕ) → count ≡ 2 * common.reach + 1
    → tolds_so_far common sweep count ≡ tolds_of common.list.now common.script.now common.reach sweep
so-far-all common sweep count is =
    let all : count ≡ suc (2 * common.reach) = omega (arith, is) in
    ap (tolds_so_far common sweep) all

values-count : (first : ℤ) (count : ℕ) → length (values_from first count) ≡ count
values-count first zero = refl
values-count first (suc count) = ap suc (values-count (first +ℤ pos 1) count)

pub tolds-count : (list : Medl) (script : Script) (sweep : Sweep) (first : ℤ) (count : ℕ)
    → length (tolds_from list script sweep first count) ≡ count
tolds-count list script sweep first count =
    length-map (values_from first count) (told_of_value list script sweep) ∙ values-count first count
