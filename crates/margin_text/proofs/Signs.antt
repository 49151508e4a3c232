-- The least and the greatest of values on one side of 0.
use Rattle.std.proofs.Common.{◌≡◌, ℤ, pos, ◌<ℤ◌, Bool, true, false, List, []}
use Rattle.std.proofs.Common.{◌∷◌, cond, Option, Some, None, refl, arith}
use Rattle.std.specs.Prelude.{filter, IfSome}
use Rattle.std.proofs.lemmas.Int.{ints}
use Rattle.clock_margins.specs.declared.margin.Between.{Between}
use Rattle.clock_margins.specs.Sums.{between_with, least_to_greatest, lies_below_0, lies_above_0}

abbrev IsBelow : Between → Type 0
IsBelow b = b.greatest <ℤ pos 0

abbrev IsAbove : Between → Type 0
IsAbove b = pos 0 <ℤ b.least

below-with : (v : ℤ) → lies_below_0 v ≡ true → (before : Option Between)
    → IfSome before IsBelow → IsBelow (between_with v before)
below-with v is None all = grind (arith, ints)
below-with v is (Some b) all = grind (arith, ints)

pub all-below : (vs : List ℤ) → IfSome (least_to_greatest (filter lies_below_0 vs)) IsBelow
all-below [] = tt
all-below (v ∷ vs) = by (lies_below_0 v) refl (all-below vs)
  where
    by : (b : Bool) → lies_below_0 v ≡ b → IfSome (least_to_greatest (filter lies_below_0 vs)) IsBelow
        → IfSome (least_to_greatest (cond b (v ∷ filter lies_below_0 vs) (filter lies_below_0 vs))) IsBelow
    by true is all = below-with v is (least_to_greatest (filter lies_below_0 vs)) all
    by false is all = all

above-with : (v : ℤ) → lies_above_0 v ≡ true → (before : Option Between)
    → IfSome before IsAbove → IsAbove (between_with v before)
above-with v is None all = grind (arith, ints)
above-with v is (Some b) all = grind (arith, ints)

pub all-above : (vs : List ℤ) → IfSome (least_to_greatest (filter lies_above_0 vs)) IsAbove
all-above [] = tt
all-above (v ∷ vs) = by (lies_above_0 v) refl (all-above vs)
  where
    by : (b : Bool) → lies_above_0 v ≡ b → IfSome (least_to_greatest (filter lies_above_0 vs)) IsAbove
        → IfSome (least_to_greatest (cond b (v ∷ filter lies_above_0 vs) (filter lies_above_0 vs))) IsAbove
    by true is all = above-with v is (least_to_greatest (filter lies_above_0 vs)) all
    by false is all = all
