-- The ranges of values that follow each other, told value by value, are what was told of each.
use Rattle.std.proofs.Common.{◌≡◌, ℕ, zero, suc, ◌*◌, ℤ, pos, neg_ℤ, ◌+ℤ◌, ◌-ℤ◌, Bool, true, false, List, [], ◌∷◌, ◌++◌}
use Rattle.std.proofs.Common.{refl, sym, ap, subst, ◌∙◌, arith, map, length, unsigned_abs, get_or}
use Rattle.std.specs.Prelude.{flat_map, if◌then◌else◌}
use Rattle.std.specs.Str.{bytes_eq}
use Rattle.std.proofs.lemmas.Bool.{and_parts}
use Rattle.std.proofs.lemmas.Int.{ints}
use Rattle.line_form.proofs.ForAbove.{same_text}
use Rattle.ttp_world.specs.declared.medl.Medl.{Medl}
use Rattle.ttp_world.specs.declared.script.Script.{Script}
use Rattle.clock_margins.specs.declared.margin.Outcome.{Outcome}
use Rattle.clock_margins.specs.declared.margin.Sweep.{Sweep}
use Rattle.clock_margins.specs.MarginText.{tolds_of}
use Rattle.clock_margins.specs.Outcomes.{ValueTold, told_of_value}
use Rattle.clock_margins.specs.Ranges.{Range, is_same_truth, are_same_sets, is_same_outcome, is_told_as}
use Rattle.clock_margins.specs.Ranges.{range_alone, range_before, ranges_of}
use Rattle.clock_margins.specs.Sums.{swept_value}
use Rattle.clock_margins.specs.Sweeps.{values_from}
use Rattle.margin_laws.specs.Ranges.{values_between, told_as, told_in_range, AreApart}

-- What is the same by its test is the same.

same_truth : (one other : Bool) → is_same_truth one other ≡ true → one ≡ other
same_truth true other same = sym same
same_truth false true same = same
same_truth false false same = refl

same_sets : (one other : List (List ℕ)) → are_same_sets one other ≡ true → one ≡ other
same_sets [] [] same = refl
same_sets [] (m ∷ more) same = grind (arith, same)
same_sets (members ∷ sets) [] same = grind (arith, same)
same_sets (members ∷ sets) (m ∷ more) same =
    let parts = and_parts (bytes_eq members m) (are_same_sets sets more) same in
    λ i. same_text members m parts.0 i ∷ same_sets sets more parts.1 i

same_outcome : (one other : Outcome) → is_same_outcome one other ≡ true → one ≡ other
same_outcome one other same =
    let left = and_parts (bytes_eq one.left other.left) _ same in
    let hurt = and_parts (bytes_eq one.hurt other.hurt) _ left.1 in
    let split = and_parts (is_same_truth one.split other.split) _ hurt.1 in
    λ i. record {
      left = same_text one.left other.left left.0 i;
      hurt = same_text one.hurt other.hurt hurt.0 i;
      split = same_truth one.split other.split split.0 i;
      end = same_sets one.end other.end split.1 i;
    }

pub same_told : (told : ValueTold) (range : Range) → is_told_as told range ≡ true → told ≡ told_as range told.value
same_told told range same =
    let parts = and_parts (bytes_eq told.test range.test) _ same in
    λ i. record {
      value = told.value;
      test = same_text told.test range.test parts.0 i;
      outcome = same_outcome told.outcome range.outcome parts.1 i;
    }

-- Values between two.

none_between : (v : ℤ) → unsigned_abs (v -ℤ v) ≡ 0
none_between v = omega (arith, ints)

one_more_between : (v from to : ℤ) (n : ℕ) → from ≡ v +ℤ pos 1 → to ≡ from +ℤ pos n
    → unsigned_abs (to -ℤ v) ≡ suc (unsigned_abs (to -ℤ from))
one_more_between v from to n is up = omega (arith, ints, is, up)

longer : (v from to : ℤ) (n : ℕ) → from ≡ v +ℤ pos 1 → to ≡ from +ℤ pos n
    → values_between v to ≡ v ∷ values_between from to
longer v from to n is up =
    ap (λ m. values_from v (suc m)) (one_more_between v from to n is up)
    ∙ ap (λ next. v ∷ values_from next (suc (unsigned_abs (to -ℤ from)))) (sym is)

-- Ranges that go up.

abbrev GoesUp : Range → Type 0
GoesUp range = (n : ℕ) × (range.to ≡ range.from +ℤ pos n)

abbrev FirstGoesUp : List Range → Type 0
FirstGoesUp [] = Unit {0}
FirstGoesUp (range ∷ ranges) = GoesUp range

alone-up : (told : ValueTold) → GoesUp (range_alone told)
alone-up told = (0, omega (arith, ints))

alone-told : (told : ValueTold) → told_in_range (range_alone told) ≡ told ∷ []
alone-told told =
    ap (λ n. map (told_as (range_alone told)) (values_from told.value (suc n))) (none_between told.value)

-- values that follow each other from one on
abbrev FollowFrom : ℤ → List ValueTold → Type 0
FollowFrom v tolds = map swept_value tolds ≡ values_from v (length tolds)

first_value : (v : ℤ) (told : ValueTold) (more : List ValueTold) → FollowFrom v (told ∷ more) → told.value ≡ v
first_value v told more follow = ap (λ zs. get_or zs 0 v) follow

abbrev tail_of : {A : Type 0} → List A → List A
tail_of [] = []
tail_of (x ∷ xs) = xs

later_values : (v : ℤ) (told : ValueTold) (more : List ValueTold) → FollowFrom v (told ∷ more)
    → FollowFrom (v +ℤ pos 1) more
later_values v told more follow = ap tail_of follow

-- A value before ranges.

abbrev Spreads : List Range → List ValueTold → Type 0
Spreads ranges tolds = FirstGoesUp ranges × (flat_map told_in_range ranges ≡ tolds)

-- the first range and one value more, which joins it or not
abbrev joined_if : Bool → ValueTold → Range → List Range → List Range
joined_if b told range ranges =
    if b then record range { from = told.value } ∷ ranges else range_alone told ∷ range ∷ ranges

joined : (b : Bool) (told : ValueTold) (range : Range) (ranges : List Range) → is_told_as told range ≡ b
    → range.from ≡ told.value +ℤ pos 1 → GoesUp range
    → Spreads (joined_if b told range ranges) (told ∷ flat_map told_in_range (range ∷ ranges))
joined true told range ranges is from (n, up) =
    let whole = ap (λ zs. map (told_as range) zs) (longer told.value range.from range.to n from up) in (
      (suc n, omega (arith, ints, from, up)),
      ap (λ tolds. tolds ++ flat_map told_in_range ranges) whole
          ∙ ap (λ first. first ∷ told_in_range range ++ flat_map told_in_range ranges) (sym (same_told told range is)),
    )
joined false told range ranges is from up =
    (alone-up told, ap (λ tolds. tolds ++ flat_map told_in_range (range ∷ ranges)) (alone-told told))

before : (v : ℤ) (told : ValueTold) (ranges : List Range) → told.value ≡ v → FirstGoesUp ranges
    → FollowFrom (v +ℤ pos 1) (flat_map told_in_range ranges)
    → Spreads (range_before told ranges) (told ∷ flat_map told_in_range ranges)
before v told [] is up follow = (alone-up told, ap (λ tolds. tolds ++ []) (alone-told told))
before v told (range ∷ ranges) is up follow =
    let from : range.from ≡ told.value +ℤ pos 1 = ap (λ zs. get_or zs 0 v) follow ∙ ap (λ z. z +ℤ pos 1) (sym is) in
    joined (is_told_as told range) told range ranges refl from up

pub spread : (v : ℤ) (tolds : List ValueTold) → FollowFrom v tolds → Spreads (ranges_of tolds) tolds
spread v [] follow = (tt, refl)
spread v (told ∷ more) follow =
    let rest = spread (v +ℤ pos 1) more (later_values v told more follow) in
    let all = before v told (ranges_of more) (first_value v told more follow) rest.0
    (subst (λ tolds. FollowFrom (v +ℤ pos 1) tolds) (sym rest.1) (later_values v told more follow)) in
    (all.0, all.1 ∙ ap (λ tolds. told ∷ tolds) rest.1)

-- What is told of a sweep follows from value to value.

pub follow-told : (f : ℤ → ValueTold) → ((z : ℤ) → (f z).value ≡ z) → (v : ℤ) (n : ℕ)
    → FollowFrom v (map f (values_from v n))
follow-told f same v zero = refl
follow-told f same v (suc n) = λ i. same v i ∷ follow-told f same (v +ℤ pos 1) n i

pub sweep-spread : (list : Medl) (script : Script) (reach : ℕ) (sweep : Sweep)
    → flat_map told_in_range (ranges_of (tolds_of list script reach sweep)) ≡ tolds_of list script reach sweep
sweep-spread list script reach sweep =
    let first = neg_ℤ (pos reach) in
    (spread first (tolds_of list script reach sweep)
    (follow-told (told_of_value list script sweep) (λ z. refl) first (suc (2 * reach)))).1

-- Ranges are apart.

apart-if : (b : Bool) (told : ValueTold) (range : Range) (ranges : List Range) → is_told_as told range ≡ b
    → AreApart (range ∷ ranges) → AreApart (joined_if b told range ranges)
apart-if true told range [] is apart = tt
apart-if true told range (next ∷ ranges) is apart = apart
apart-if false told range ranges is apart = (is, apart)

apart-before : (told : ValueTold) (ranges : List Range) → AreApart ranges → AreApart (range_before told ranges)
apart-before told [] apart = tt
apart-before told (range ∷ ranges) apart = apart-if (is_told_as told range) told range ranges refl apart

pub apart-all : (tolds : List ValueTold) → AreApart (ranges_of tolds)
apart-all [] = tt
apart-all (told ∷ more) = apart-before told (ranges_of more) (apart-all more)
