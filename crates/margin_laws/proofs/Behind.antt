-- What is told of one value more, behind the others, and of one sweep more.
use Rattle.std.proofs.Common.{◌≡◌, ℕ, zero, suc, ◌+◌, max, ℤ, pos, ◌+ℤ◌, Bool, true}
use Rattle.std.proofs.Common.{false, ◌&&◌, ◌||◌, cond, List, [], ◌∷◌, ◌++◌}
use Rattle.std.proofs.Common.{refl, sym, ap, ◌∙◌, append_assoc, append-nil, arith, map, length, Option, Some, None}
use Rattle.std.specs.Prelude.{filter}
use Rattle.std.specs.Int.{int_min, int_max}
use Rattle.std.specs.List.{list_any, cons_option}
use Rattle.std.proofs.lemmas.Bool.{false≢true}
use Rattle.std.proofs.lemmas.Int.{ints}
use Rattle.std.proofs.lemmas.List.Elements.{filter-append}
use Rattle.std.proofs.lemmas.List.Folds.{list_any-append}
use Rattle.std.proofs.lemmas.List.Sums.{sum_by_push}
use Rattle.std.proofs.lemmas.List.{map-append}
use Rattle.clock_margins.specs.declared.margin.Between.{Between}
use Rattle.clock_margins.specs.declared.margin.Margin.{Margin}
use Rattle.clock_margins.specs.Outcomes.{ValueTold, costs_nobody, costs_itself, costs_others}
use Rattle.clock_margins.specs.Ranges.{Range, is_told_as, range_alone, range_before, ranges_of}
use Rattle.clock_margins.specs.Sums.{swept_value, between_with, least_to_greatest, counts_by_cost}
use Rattle.clock_margins.specs.Sums.{most_hurt, common, nearer, nearest}
use Rattle.clock_margins.specs.Sums.{count_of_values, counts_with, total_of}
use Rattle.clock_margins.specs.Sweeps.{values_from}
use Rattle.margin_laws.specs.Behind.{range_behind, closed_ranges, open_range, noted_if, total_behind}
use Rattle.margin_laws.proofs.Added.{together}
use Rattle.margin_laws.proofs.Spread.{same_told}

-- Ranges.

-- a value is told as another alone: both ways or neither
told_alike : (x t : ValueTold) → is_told_as x (range_alone t) ≡ true → is_told_as t (range_alone x) ≡ true
told_alike x t is =
    let same = same_told x (range_alone t) is in
    let test : x.test ≡ t.test = ap (λ (u : ValueTold). u.test) same in
    let outcome : x.outcome ≡ t.outcome = ap (λ (u : ValueTold). u.outcome) same in
    sym (λ i. is_told_as (record { value = x.value; test = test i; outcome = outcome i })
    (record { from = x.value; to = x.value; test = sym test i; outcome = sym outcome i })) ∙ is

alone-alone : (x t : ValueTold) (a b : Bool) → is_told_as x (range_alone t) ≡ a → is_told_as t (range_alone x) ≡ b
    → range_before x (range_alone t ∷ []) ≡ range_behind t (range_alone x ∷ [])
alone-alone x t true true p q =
    let same = same_told x (range_alone t) p in
    ap (λ (c : Bool). cond c (record { from = x.value; to = t.value; test = t.test; outcome = t.outcome } ∷ [])
    (range_alone x ∷ range_alone t ∷ [])) p
    ∙ (λ i. record { from = x.value; to = t.value; test = (sym same i).test; outcome = (sym same i).outcome } ∷ [])
    ∙ sym (ap (λ (c : Bool). cond c (record { from = x.value; to = t.value; test = x.test; outcome = x.outcome } ∷ [])
    (range_alone x ∷ range_alone t ∷ [])) q)
alone-alone x t true false p q = absurd (false≢true (sym q ∙ told_alike x t p))
alone-alone x t false true p q = absurd (false≢true (sym p ∙ told_alike t x q))
alone-alone x t false false p q =
    ap (λ (c : Bool). cond c (record { from = x.value; to = t.value; test = t.test; outcome = t.outcome } ∷ [])
    (range_alone x ∷ range_alone t ∷ [])) p
    ∙ sym (ap (λ (c : Bool). cond c (record { from = x.value; to = t.value; test = x.test; outcome = x.outcome } ∷ [])
    (range_alone x ∷ range_alone t ∷ [])) q)

one-range : (x t : ValueTold) (r : Range) (a b : Bool) → is_told_as t r ≡ a → is_told_as x r ≡ b
    → range_before x (cond a (record r { to = t.value } ∷ []) (r ∷ range_alone t ∷ []))
    ≡ range_behind t (cond b (record r { from = x.value } ∷ []) (range_alone x ∷ r ∷ []))
one-range x t r true true p q =
    let whole : Range = record { from = x.value; to = t.value; test = r.test; outcome = r.outcome } in
    ap (λ (c : Bool). cond c (whole ∷ []) (range_alone x ∷ record r { to = t.value } ∷ [])) q
    ∙ sym (ap (λ (c : Bool). cond c (whole ∷ []) (record r { from = x.value } ∷ range_alone t ∷ [])) p)
one-range x t r true false p q =
    let longer : Range = record r { to = t.value } in
    ap (λ (c : Bool). cond c (record longer { from = x.value } ∷ []) (range_alone x ∷ longer ∷ [])) q
    ∙ sym (ap (λ (c : Bool). range_alone x ∷ cond c (longer ∷ []) (r ∷ range_alone t ∷ [])) p)
one-range x t r false true p q =
    let longer : Range = record r { from = x.value } in
    ap (λ (c : Bool). cond c (longer ∷ range_alone t ∷ []) (range_alone x ∷ r ∷ range_alone t ∷ [])) q
    ∙ sym (ap (λ (c : Bool). cond c (record longer { to = t.value } ∷ []) (longer ∷ range_alone t ∷ [])) p)
one-range x t r false false p q =
    ap (λ (c : Bool). cond c (record r { from = x.value } ∷ range_alone t ∷ [])
    (range_alone x ∷ r ∷ range_alone t ∷ [])) q
    ∙ sym (ap (λ (c : Bool). range_alone x ∷ cond c (record r { to = t.value } ∷ []) (r ∷ range_alone t ∷ [])) p)

more-ranges : (x t : ValueTold) (r next : Range) (ranges : List Range) (b : Bool)
    → cond b (record r { from = x.value } ∷ range_behind t (next ∷ ranges))
    (range_alone x ∷ r ∷ range_behind t (next ∷ ranges))
    ≡ range_behind t (cond b (record r { from = x.value } ∷ next ∷ ranges) (range_alone x ∷ r ∷ next ∷ ranges))
more-ranges x t r next ranges true = refl
more-ranges x t r next ranges false = refl

before-behind : (x t : ValueTold) (ranges : List Range)
    → range_before x (range_behind t ranges) ≡ range_behind t (range_before x ranges)
before-behind x t [] = alone-alone x t (is_told_as x (range_alone t)) (is_told_as t (range_alone x)) refl refl
before-behind x t (r ∷ []) = one-range x t r (is_told_as t r) (is_told_as x r) refl refl
before-behind x t (r ∷ next ∷ ranges) = more-ranges x t r next ranges (is_told_as x r)

-- the ranges with one value more
pub ranges-behind : (tolds : List ValueTold) (t : ValueTold)
    → ranges_of (tolds ++ t ∷ []) ≡ range_behind t (ranges_of tolds)
ranges-behind [] t = refl
ranges-behind (x ∷ tolds) t =
    ap (range_before x) (ranges-behind tolds t) ∙ before-behind x t (ranges_of tolds)

-- What is closed, and what stands open.

pub closed-open : (ranges : List Range) → ranges ≡ closed_ranges ranges ++ cons_option (open_range ranges) []
closed-open [] = refl
closed-open (r ∷ []) = refl
closed-open (r ∷ next ∷ ranges) = ap (λ (rs : List Range). r ∷ rs) (closed-open (next ∷ ranges))

-- the value stands alone: what was open is closed

apart-if : (t : ValueTold) (r : Range) → is_told_as t r ≡ false → range_behind t (r ∷ []) ≡ r ∷ range_alone t ∷ []
apart-if t r other = ap (λ (c : Bool). cond c (record r { to = t.value } ∷ []) (r ∷ range_alone t ∷ [])) other

-- of ranges with one at their end
pub closed-end : (ranges : List Range) (r : Range) → closed_ranges (ranges ++ r ∷ []) ≡ ranges
closed-end [] r = refl
closed-end (q ∷ []) r = refl
closed-end (q ∷ next ∷ ranges) r = ap (λ (rs : List Range). q ∷ rs) (closed-end (next ∷ ranges) r)

pub open-end : (ranges : List Range) (r : Range) → open_range (ranges ++ r ∷ []) ≡ Some r
open-end [] r = refl
open-end (q ∷ []) r = refl
open-end (q ∷ next ∷ ranges) r = open-end (next ∷ ranges) r

-- What is closed stays as it is.

abbrev pub BeginsWith : List Range → List Range → Type 0
BeginsWith front ranges = (rest : List Range) × (ranges ≡ front ++ rest)

pub closed-kept : (t : ValueTold) (ranges : List Range)
    → BeginsWith (closed_ranges ranges) (closed_ranges (range_behind t ranges))
closed-kept t [] = ([], refl)
closed-kept t (r ∷ []) = (closed_ranges (range_behind t (r ∷ [])), refl)
closed-kept t (r ∷ next ∷ []) = by (is_told_as t next)
  where
    by : (b : Bool) → BeginsWith (r ∷ [])
        (closed_ranges (r ∷ cond b (record next { to = t.value } ∷ []) (next ∷ range_alone t ∷ [])))
    by true = ([], refl)
    by false = (next ∷ [], refl)
closed-kept t (r ∷ next ∷ third ∷ ranges) =
    let more = closed-kept t (next ∷ third ∷ ranges) in
    (more.0, ap (λ (rs : List Range). r ∷ rs) more.1)

pub closed-more : (tolds more : List ValueTold)
    → BeginsWith (closed_ranges (ranges_of tolds)) (closed_ranges (ranges_of (tolds ++ more)))
closed-more tolds [] = (
  [],
  ap (λ (xs : List ValueTold). closed_ranges (ranges_of xs)) (append-nil tolds)
      ∙ sym (append-nil (closed_ranges (ranges_of tolds))),
)
closed-more tolds (t ∷ more) =
    let kept = closed-kept t (ranges_of tolds) in
    let later = closed-more (tolds ++ t ∷ []) more in (
      kept.0 ++ later.0,
      ap (λ (xs : List ValueTold). closed_ranges (ranges_of xs)) (sym (append_assoc tolds (t ∷ []) more)) ∙ later.1
          ∙ ap (λ (rs : List Range). rs ++ later.0) (ap closed_ranges (ranges-behind tolds t) ∙ kept.1)
          ∙ append_assoc (closed_ranges (ranges_of tolds)) kept.0 later.0,
    )

-- Values, from the least to the greatest.

two-ways : (w v : ℤ) (b : Option Between) → between_with w (Some (between_with v b))
    ≡ between_with v (Some (between_with w b))
two-ways w v None =
    let least : int_min w v ≡ int_min v w = grind (arith, ints) in
    let most : int_max w v ≡ int_max v w = grind (arith, ints) in
    λ i. record { least = least i; greatest = most i }
two-ways w v (Some b) =
    let least : int_min w (int_min v b.least) ≡ int_min v (int_min w b.least) = grind (arith, ints) in
    let most : int_max w (int_max v b.greatest) ≡ int_max v (int_max w b.greatest) = grind (arith, ints) in
    λ i. record { least = least i; greatest = most i }

least-behind : (vs : List ℤ) (v : ℤ) → least_to_greatest (vs ++ v ∷ []) ≡ Some (between_with v (least_to_greatest vs))
least-behind [] v = refl
least-behind (w ∷ vs) v =
    ap (λ (b : Option Between). Some (between_with w b)) (least-behind vs v)
    ∙ ap (λ (b : Between). Some b) (two-ways w v (least_to_greatest vs))

module _ (q : ValueTold → Bool) (tolds : List ValueTold) (t : ValueTold) where
  abbrev kept : List ValueTold → List ℤ
  kept xs = map swept_value (filter q xs)

  kept-behind : kept (tolds ++ t ∷ []) ≡ kept tolds ++ cond (q t) (t.value ∷ []) []
  kept-behind =
      ap (map swept_value) (filter-append q tolds (t ∷ []))
      ∙ map-append swept_value (filter q tolds) (filter q (t ∷ []))
      ∙ ap (λ (vs : List ℤ). kept tolds ++ vs) (by (q t))
    where
      by : (b : Bool) → map swept_value (cond b (t ∷ []) []) ≡ cond b (t.value ∷ []) []
      by true = refl
      by false = refl

  -- one of them, if there is one more
  pub any-behind : (p : ℤ → Bool)
      → list_any p (kept (tolds ++ t ∷ [])) ≡ (list_any p (kept tolds) || (q t && p t.value))
  any-behind p =
      ap (list_any p) kept-behind ∙ list_any-append p (kept tolds) (cond (q t) (t.value ∷ []) [])
      ∙ ap (λ (b : Bool). list_any p (kept tolds) || b) (by (q t) (p t.value))
    where
      by : (a b : Bool) → list_any p (cond a (t.value ∷ []) []) ≡ (a && p t.value)
      by true b = or-none (p t.value)
        where
          or-none : (c : Bool) → (c || false) ≡ c
          or-none true = refl
          or-none false = refl
      by false b = refl

  pub spread-behind : (p : ℤ → Bool)
      → least_to_greatest (filter p (kept (tolds ++ t ∷ [])))
      ≡ noted_if (q t && p t.value) t.value (least_to_greatest (filter p (kept tolds)))
  spread-behind p =
      ap (λ (vs : List ℤ). least_to_greatest (filter p vs)) kept-behind
      ∙ ap least_to_greatest (filter-append p (kept tolds) (cond (q t) (t.value ∷ []) []))
      ∙ by (q t) (p t.value) refl
    where
      old : List ℤ
      old = filter p (kept tolds)

      by : (a b : Bool) → p t.value ≡ b
          → least_to_greatest (filter p (kept tolds) ++ filter p (cond a (t.value ∷ []) []))
          ≡ noted_if (a && b) t.value (least_to_greatest (filter p (kept tolds)))
      by true true is =
          ap (λ (b : Bool). least_to_greatest (filter p (kept tolds) ++ cond b (t.value ∷ []) [])) is
          ∙ least-behind (filter p (kept tolds)) t.value
      by true false is =
          ap (λ (b : Bool). least_to_greatest (filter p (kept tolds) ++ cond b (t.value ∷ []) [])) is
          ∙ ap least_to_greatest (append-nil (filter p (kept tolds)))
      by false b is = ap least_to_greatest (append-nil (filter p (kept tolds)))

pub counts-behind : (k : ℕ) (tolds : List ValueTold) (t : ValueTold)
    → counts_by_cost k (tolds ++ t ∷ [])
    ≡ counts_with (counts_by_cost k tolds) (record {
      nobody = cond (costs_nobody k t) 1 0;
      itself = cond (costs_itself k t) 1 0;
      others = cond (costs_others k t) 1 0;
    })
counts-behind k tolds t = λ i. record {
  nobody = sum_by_push (λ u. cond (costs_nobody k u) 1 0) tolds t i;
  itself = sum_by_push (λ u. cond (costs_itself k u) 1 0) tolds t i;
  others = sum_by_push (λ u. cond (costs_others k u) 1 0) tolds t i;
}

most-of : (a b c : ℕ) → max a (max b c) ≡ max (max a b) c
most-of a b c = omega arith

max-none : (a : ℕ) → max a 0 ≡ max 0 a
max-none a = omega arith

pub most-behind : (tolds : List ValueTold) (t : ValueTold)
    → most_hurt (tolds ++ t ∷ []) ≡ max (most_hurt tolds) (length t.outcome.hurt)
most-behind [] t = max-none (length t.outcome.hurt)
most-behind (u ∷ tolds) t =
    ap (max (length u.outcome.hurt)) (most-behind tolds t)
    ∙ most-of (length u.outcome.hurt) (most_hurt tolds) (length t.outcome.hurt)

-- Sweeps.

common-none : (free : Option Between) → common free None ≡ free
common-none None = refl
common-none (Some b) = refl

nearer-none : (least : Option ℕ) → nearer least None ≡ least
nearer-none None = refl
nearer-none (Some n) = refl

pub total-behind : (margins : List Margin) (m : Margin)
    → total_of (margins ++ m ∷ []) ≡ total_behind (total_of margins) m
total-behind margins m =
    let sum : (x y : ℕ) → x + (y + 0) ≡ x + y = λ x y. omega arith in
    let most : (x y : ℕ) → max x (max y 0) ≡ max x y = λ x y. omega arith in
    let total = total_of margins in
    together margins (m ∷ [])
    ∙ (λ i. record {
      sweeps = total.sweeps + 1;
      values = sum total.values (count_of_values m.counts) i;
      counts = record {
        nobody = sum total.counts.nobody m.counts.nobody i;
        itself = sum total.counts.itself m.counts.itself i;
        others = sum total.counts.others m.counts.others i;
      };
      free = common total.free (common-none m.free i);
      least = nearer total.least (nearer-none (nearest m) i);
      most = most total.most m.most i;
    })

-- Values that follow each other.
pub values-parts : (v : ℤ) (a b : ℕ) → values_from v (a + b) ≡ values_from v a ++ values_from (v +ℤ pos a) b
values-parts v zero b =
    let same : v ≡ v +ℤ pos 0 = omega (arith, ints) in
    let count : 0 + b ≡ b = omega arith in
    ap (values_from v) count ∙ ap (λ z. values_from z b) same
values-parts v (suc a) b =
    let same : (v +ℤ pos 1) +ℤ pos a ≡ v +ℤ pos (suc a) = omega (arith, ints) in
    let count : suc a + b ≡ suc (a + b) = omega arith in
    ap (values_from v) count
    ∙ ap (λ zs. v ∷ zs) (values-parts (v +ℤ pos 1) a b ∙ ap (λ z. values_from (v +ℤ pos 1) a ++ values_from z b) same)
