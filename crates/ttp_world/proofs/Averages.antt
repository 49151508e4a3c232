-- The fault-tolerant average: the last four notes settle it, and it lies between two numbers where all notes do.
use Rattle.ttp_world.proofs.Words.{◌≡◌, ◌<◌, ℤ, pos, ◌+ℤ◌, ◌≤ℤ◌, false, cond, List, [], ◌∷◌, length, take, drop, refl}
use Rattle.ttp_world.proofs.Words.{sym, ap, arith, int_le, nat_lt, unsigned_abs, cond_both, ints, All-nil, All-cons}
use Rattle.ttp_world.proofs.Words.{All-head, All-tail, All-take, fta}
use Rattle.std.proofs.Common.{negsuc, ◌*ℤ◌}
use Rattle.std.specs.Prelude.{All, int_div, int_rem}
use Rattle.std.proofs.lemmas.Int.{quot-rem, rem_below}
use Rattle.ttp_world.specs.Clock.{insert_sorted, sorted, middle_half}
use Rattle.ttp_world.specs.Script.{sum_ℤ}

pub fta-take : (notes : List ℤ) → fta (take 4 notes) ≡ fta notes
fta-take [] = refl
fta-take (a ∷ []) = refl
fta-take (a ∷ b ∷ []) = refl
fta-take (a ∷ b ∷ c ∷ []) = refl
fta-take (a ∷ b ∷ c ∷ d ∷ rest) =
    let many : nat_lt (length (a ∷ b ∷ c ∷ d ∷ rest)) 4 ≡ false = grind arith in
    sym (ap (λ t. cond t (pos 0) (middle_half (a ∷ b ∷ c ∷ d ∷ []))) many)

-- Halves.

-- a number lies between two
abbrev pub Between : ℤ → ℤ → ℤ → Type 0
Between low high z = (low ≤ℤ z) × (z ≤ℤ high)

pub rem_small : (r : ℤ) → unsigned_abs r < 2 → (negsuc 0 ≤ℤ r) × (r ≤ℤ pos 1)
rem_small (pos n) small = (omega (arith, ints, small), omega (arith, ints, small))
rem_small (negsuc n) small = (omega (arith, ints, small), omega (arith, ints, small))

half_between_of : (low high z q r : ℤ) → q *ℤ pos 2 +ℤ r ≡ z → (negsuc 0 ≤ℤ r) × (r ≤ℤ pos 1) → (low +ℤ low) ≤ℤ z
    → z ≤ℤ (high +ℤ high) → Between low high q
half_between_of low high z q r is small from upto =
    (omega (arith, ints, is, small.0, small.1, from), omega (arith, ints, is, small.0, small.1, upto))

pub half_between : (low high z : ℤ) → (low +ℤ low) ≤ℤ z → z ≤ℤ (high +ℤ high) → Between low high (int_div z (pos 2))
half_between low high z from upto =
    half_between_of low high z (int_div z (pos 2)) (int_rem z (pos 2)) (quot-rem z (pos 2))
    (rem_small (int_rem z (pos 2)) (rem_below z (pos 2) (omega arith))) from upto

-- Sorting drops nothing and adds nothing.

All-insert : (P : ℤ → Type 0) (z : ℤ) (xs : List ℤ) → P z → All P xs → All P (insert_sorted z xs)
All-insert P z [] here all = All-cons P z [] here (All-nil P)
All-insert P z (y ∷ ys) here all =
    cond_both (int_le z y) (z ∷ y ∷ ys) (y ∷ insert_sorted z ys) (All P)
    (λ before. All-cons P z (y ∷ ys) here all)
    (λ after. All-cons P y (insert_sorted z ys) (All-head P y ys all) (All-insert P z ys here (All-tail P y ys all)))

All-sorted : (P : ℤ → Type 0) (xs : List ℤ) → All P xs → All P (sorted xs)
All-sorted P [] all = all
All-sorted P (z ∷ zs) all = All-insert P z (sorted zs) (All-head P z zs all) (All-sorted P zs (All-tail P z zs all))

-- Where all of some numbers lie between two that have 0 between them, so does the average.

sum_of_two : (low high a b : ℤ) → Between low high a → Between low high b
    → Between (low +ℤ low) (high +ℤ high) (a +ℤ (b +ℤ pos 0))
sum_of_two low high a b p q = (omega (arith, ints, p.0, q.0), omega (arith, ints, p.1, q.1))

sum_of_one : (low high a : ℤ) → low ≤ℤ pos 0 → pos 0 ≤ℤ high → Between low high a
    → Between (low +ℤ low) (high +ℤ high) (a +ℤ pos 0)
sum_of_one low high a from upto p = (omega (arith, ints, from, p.0), omega (arith, ints, upto, p.1))

sum_of_none : (low high : ℤ) → low ≤ℤ pos 0 → pos 0 ≤ℤ high → Between (low +ℤ low) (high +ℤ high) (pos 0)
sum_of_none low high from upto = (omega (arith, ints, from), omega (arith, ints, upto))

middle-between : (low high : ℤ) (xs : List ℤ) → low ≤ℤ pos 0 → pos 0 ≤ℤ high → All (Between low high) xs
    → Between (low +ℤ low) (high +ℤ high) (sum_ℤ (take 2 (drop 1 xs)))
middle-between low high [] from upto all = sum_of_none low high from upto
middle-between low high (a ∷ []) from upto all = sum_of_none low high from upto
middle-between low high (a ∷ b ∷ []) from upto all =
    let P = Between low high in
    sum_of_one low high b from upto (All-head P b [] (All-tail P a (b ∷ []) all))
middle-between low high (a ∷ b ∷ c ∷ xs) from upto all =
    let P = Between low high in
    let behind = All-tail P a (b ∷ c ∷ xs) all in
    sum_of_two low high b c (All-head P b (c ∷ xs) behind) (All-head P c xs (All-tail P b (c ∷ xs) behind))

pub fta-between : (low high : ℤ) (notes : List ℤ) → low ≤ℤ pos 0 → pos 0 ≤ℤ high → All (Between low high) notes
    → Between low high (fta notes)
fta-between low high notes from upto all =
    let P = Between low high in
    let four = sorted (take 4 notes) in
    let sum = middle-between low high four from upto (All-sorted P (take 4 notes) (All-take P 4 notes all)) in
    cond_both (nat_lt (length notes) 4) (pos 0) (middle_half (take 4 notes)) P (λ few. (from, upto))
    (λ many. half_between low high (sum_ℤ (take 2 (drop 1 four))) sum.0 sum.1)
