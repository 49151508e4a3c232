-- How many ranges there are, by those that are closed and the one that is open.
use Rattle.std.proofs.Common.{◌≡◌, ℕ, ◌+◌, true, false, List, [], ◌∷◌, ◌++◌, length, Option}
use Rattle.std.proofs.Common.{Some, None, refl, ap, sym, ◌∙◌, arith, length-append}
use Rattle.std.specs.Prelude.{option_map, is_some}
use Rattle.std.specs.List.{cons_option}
use Rattle.std.proofs.lemmas.Bool.{false≢true}
use Rattle.clock_margins.specs.Outcomes.{ValueTold}
use Rattle.clock_margins.specs.Ranges.{Range, range_alone}
use Rattle.margin_laws.specs.Behind.{range_behind, closed_ranges, open_range}
use Rattle.margin_text.proofs.FromBelow.{closed-open}
use Rattle.margin_text.specs.declared.range.OpenRange.{OpenRange}
use Rattle.margin_text.specs.Taken.{range_of, ranges_closed}

whole : (ranges : List Range) (last : Option OpenRange) → option_map range_of last ≡ open_range ranges
    → ranges ≡ closed_ranges ranges ++ cons_option (option_map range_of last) []
whole ranges last is =
    closed-open ranges ∙ ap (λ (o : Option Range). closed_ranges ranges ++ cons_option o []) (sym is)

pub some-count : (ranges : List Range) (last : Option OpenRange) (n : ℕ) → option_map range_of last ≡ open_range ranges
    → n ≡ length (closed_ranges ranges) → is_some last ≡ true → n + 1 ≡ length ranges
some-count ranges None n is count some = absurd (false≢true some)
some-count ranges (Some r) n is count some =
    let all = ap length (whole ranges (Some r) is) ∙ length-append (closed_ranges ranges) (range_of r ∷ []) in
    omega (arith, all, count)

pub none-count : (ranges : List Range) (last : Option OpenRange) (n : ℕ) → option_map range_of last ≡ open_range ranges
    → n ≡ length (closed_ranges ranges) → is_some last ≡ false → n ≡ length ranges
none-count ranges None n is count none =
    let all = ap length (whole ranges None is) ∙ length-append (closed_ranges ranges) [] in
    omega (arith, all, count)
none-count ranges (Some r) n is count none = absurd (false≢true (sym none))

pub one-closed : (closed : Option OpenRange) → is_some closed ≡ true → length (ranges_closed closed) ≡ 1
one-closed None some = absurd (false≢true some)
one-closed (Some r) some = refl

pub none-closed : (closed : Option OpenRange) → is_some closed ≡ false → length (ranges_closed closed) ≡ 0
none-closed None none = refl
none-closed (Some r) none = absurd (false≢true (sym none))

-- a value behind ranges is one behind the open range, if there is one
pub behind-last : (t : ValueTold) (last : Range) (ranges : List Range) → open_range ranges ≡ Some last
    → range_behind t ranges ≡ closed_ranges ranges ++ range_behind t (last ∷ [])
behind-last t last [] is = absurd (cc)
behind-last t last (r ∷ []) is =
    let same : r ≡ last = cc in
    ap (λ (q : Range). range_behind t (q ∷ [])) same
behind-last t last (r ∷ next ∷ ranges) is = ap (λ (rs : List Range). r ∷ rs) (behind-last t last (next ∷ ranges) is)

pub behind-none : (t : ValueTold) (ranges : List Range) → open_range ranges ≡ None
    → range_behind t ranges ≡ (closed_ranges ranges ++ []) ++ range_alone t ∷ []
behind-none t [] is = refl
behind-none t (r ∷ []) is = absurd (cc)
behind-none t (r ∷ next ∷ ranges) is = absurd (none-open r next ranges is)
  where
    none-open : (r next : Range) (ranges : List Range) → open_range (r ∷ next ∷ ranges) ≡ None → ⊥
    none-open r next [] is = (let both : Some next ≡ None = is in cc)
    none-open r next (third ∷ ranges) is = none-open next third ranges is
