-- The sums of sweeps, and the counts of their values.
use Rattle.std.proofs.Common.{◌≡◌, ℕ, zero, suc, ◌+◌, ◌*◌, min, max, ℤ, pos, neg_ℤ, ◌+ℤ◌, cond, List, [], ◌∷◌, ◌++◌}
use Rattle.std.proofs.Common.{refl, sym, ap, ◌∙◌, arith, map, length, Option, Some, None}
use Rattle.std.specs.Int.{int_min, int_max}
use Rattle.std.proofs.lemmas.Int.{ints}
use Rattle.std.proofs.lemmas.List.Sums.{sum_by-cons}
use Rattle.ttp_world.specs.declared.medl.Medl.{Medl}
use Rattle.ttp_world.specs.declared.script.Script.{Script}
use Rattle.clock_margins.specs.declared.margin.Between.{Between}
use Rattle.clock_margins.specs.declared.margin.CostCounts.{CostCounts}
use Rattle.clock_margins.specs.declared.margin.Costs.{Costs}
use Rattle.clock_margins.specs.declared.margin.Costs.TheVariants as costs
use Rattle.clock_margins.specs.declared.margin.Margin.{Margin}
use Rattle.clock_margins.specs.declared.margin.Sweep.{Sweep}
use Rattle.clock_margins.specs.declared.margin.Total.{Total}
use Rattle.clock_margins.specs.MarginText.{tolds_of}
use Rattle.clock_margins.specs.Outcomes.{ValueTold, whom_it_costs, is_nobody, is_itself, is_others}
use Rattle.clock_margins.specs.Outcomes.{costs_nobody, costs_itself, costs_others, told_of_value}
use Rattle.clock_margins.specs.Sums.{counts_by_cost, count_of_values, counts_with, common}
use Rattle.clock_margins.specs.Sums.{nearer, nearest, total_of, total_with, no_sweeps}
use Rattle.clock_margins.specs.Sweeps.{values_from}
use Rattle.margin_laws.specs.Sums.{totals_together}

-- Counts of values: each costs nobody, the node itself or others.

one_of_three : (whom : Costs) → cond (is_nobody whom) 1 0 + cond (is_itself whom) 1 0 + cond (is_others whom) 1 0 ≡ 1
one_of_three costs.Nobody = refl
one_of_three whom = refl

counted : (k : ℕ) (tolds : List ValueTold) → count_of_values (counts_by_cost k tolds) ≡ length tolds
counted k [] = refl
counted k (told ∷ tolds) = omega (
  arith,
  counted k tolds,
  one_of_three (whom_it_costs k told.outcome),
  sum_by-cons (λ t. cond (costs_nobody k t) 1 0) told tolds,
  sum_by-cons (λ t. cond (costs_itself k t) 1 0) told tolds,
  sum_by-cons (λ t. cond (costs_others k t) 1 0) told tolds,
)

length-values : (f : ℤ → ValueTold) (v : ℤ) (n : ℕ) → length (map f (values_from v n)) ≡ n
length-values f v zero = refl
length-values f v (suc n) = ap suc (length-values f (v +ℤ pos 1) n)

pub sweep-counted : (list : Medl) (script : Script) (reach : ℕ) (sweep : Sweep)
    → count_of_values (counts_by_cost sweep.node (tolds_of list script reach sweep)) ≡ suc (2 * reach)
sweep-counted list script reach sweep =
    counted sweep.node (tolds_of list script reach sweep) ∙ length-values (told_of_value list script sweep)
    (neg_ℤ (pos reach)) (suc (2 * reach))

-- Sums.

greater-of_three : (x y z : ℤ) → int_max (int_max x y) z ≡ int_max x (int_max y z)
greater-of_three x y z = grind (arith, ints)

lesser-of_three : (x y z : ℤ) → int_min (int_min x y) z ≡ int_min x (int_min y z)
lesser-of_three x y z = grind (arith, ints)

common-of_three : (a b c : Option Between) → common (common a b) c ≡ common a (common b c)
common-of_three None b c = refl
common-of_three (Some a) None c = refl
common-of_three (Some a) (Some b) None = refl
common-of_three (Some a) (Some b) (Some c) = λ i. Some (record {
  least = greater-of_three a.least b.least c.least i;
  greatest = lesser-of_three a.greatest b.greatest c.greatest i;
})

least-of_three : (x y z : ℕ) → min (min x y) z ≡ min x (min y z)
least-of_three x y z = omega arith

nearer-of_three : (a b c : Option ℕ) → nearer (nearer a b) c ≡ nearer a (nearer b c)
nearer-of_three None b c = refl
nearer-of_three (Some a) None c = refl
nearer-of_three (Some a) (Some b) None = refl
nearer-of_three (Some a) (Some b) (Some c) = ap (λ n. Some n) (least-of_three a b c)

sum-of_three : (x y z : ℕ) → (x + y) + z ≡ x + (y + z)
sum-of_three x y z = omega arith

one_more : (x y : ℕ) → suc x + y ≡ suc (x + y)
one_more x y = omega arith

none-and : (x : ℕ) → x ≡ 0 + x
none-and x = omega arith

none-most : (x : ℕ) → x ≡ max 0 x
none-most x = omega arith

counts-of_three : (a b c : CostCounts) → counts_with (counts_with a b) c ≡ counts_with a (counts_with b c)
counts-of_three a b c = λ i. record {
  nobody = sum-of_three a.nobody b.nobody c.nobody i;
  itself = sum-of_three a.itself b.itself c.itself i;
  others = sum-of_three a.others b.others c.others i;
}

none-together : (total : Total) → total ≡ totals_together no_sweeps total
none-together total = λ i. record {
  sweeps = none-and total.sweeps i;
  values = none-and total.values i;
  counts = record {
    nobody = none-and total.counts.nobody i;
    itself = none-and total.counts.itself i;
    others = none-and total.counts.others i;
  };
  free = total.free;
  least = total.least;
  most = none-most total.most i;
}

with-together : (m : Margin) (one other : Total)
    → total_with m (totals_together one other) ≡ totals_together (total_with m one) other
with-together m one other = λ i. record {
  sweeps = sym (one_more one.sweeps other.sweeps) i;
  values = sym (sum-of_three (count_of_values m.counts) one.values other.values) i;
  counts = sym (counts-of_three m.counts one.counts other.counts) i;
  free = sym (common-of_three m.free one.free other.free) i;
  least = sym (nearer-of_three (nearest m) one.least other.least) i;
  most = (let most : max m.most (max one.most other.most)
      ≡ max (max m.most one.most) other.most = omega arith in most) i;
}

pub together : (some others : List Margin) → total_of (some ++ others)
    ≡ totals_together (total_of some) (total_of others)
together [] others = none-together (total_of others)
together (m ∷ some) others =
    ap (total_with m) (together some others) ∙ with-together m (total_of some) (total_of others)
