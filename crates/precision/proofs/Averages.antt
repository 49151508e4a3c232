-- The averages that two nodes take of the deviations of the same frames bring their clocks together.
use Rattle.std.proofs.Common.{◌≡◌, ℕ, zero, suc, ◌<◌, ◌≤◌, ℤ, pos, neg_ℤ, ◌+ℤ◌, ◌-ℤ◌, ◌≤ℤ◌, true, false}
use Rattle.std.proofs.Common.{List, [], ◌∷◌, length, take, drop, refl, ap, ◌∙◌, arith}
use Rattle.std.specs.Prelude.{All, nat_lt, int_div}
use Rattle.std.proofs.lemmas.Int.{ints}
use Rattle.std.proofs.lemmas.List.{length-take-le}
use Rattle.std.proofs.lemmas.List.Elements.{All-weaker}
use Rattle.ttp_world.specs.Clock.{sorted, middle_half, fta}
use Rattle.ttp_world.specs.Script.{sum_ℤ}
use Rattle.ttp_world.proofs.Averages.{Between, fta-between}
use Rattle.node_parts.proofs.ForAbove.{half_about, AreBelow, AreBelow-sorted, length-sorted}

-- a number lies no further from 0 than w
abbrev pub IsUpTo : ℤ → ℤ → Type 0
IsUpTo w z = (neg_ℤ w ≤ℤ z) × (z ≤ℤ w)

-- each note of a clock tells where the frame beside it was, within w: clock and note together
abbrev pub Locate : ℤ → ℤ → List ℤ → List ℤ → Type 0
Locate w clock [] [] = Unit {0}
Locate w clock (d ∷ ds) (x ∷ xs) = IsUpTo w ((clock +ℤ d) -ℤ x) × Locate w clock ds xs
Locate w clock ds xs = ⊥

-- so do the newest notes, of the newest frames: there may be more frames than notes
abbrev pub LocateNewest : ℤ → ℤ → List ℤ → List ℤ → Type 0
LocateNewest w clock [] xs = Unit {0}
LocateNewest w clock (d ∷ ds) [] = ⊥
LocateNewest w clock (d ∷ ds) (x ∷ xs) = IsUpTo w ((clock +ℤ d) -ℤ x) × LocateNewest w clock ds xs

-- the frames that a clock's notes tell of were near another clock
abbrev pub AreNear : ℤ → ℤ → ℤ → List ℤ → Type 0
AreNear w c k notes = All (λ d. IsUpTo w ((c +ℤ d) -ℤ k)) notes

-- Notes of two clocks on the same frames.

AreBelow-located : (w b c : ℤ) (n : ℕ) (ds es xs : List ℤ) → LocateNewest w b ds xs → LocateNewest w c es xs
    → n ≤ length ds → n ≤ length es
    → AreBelow ((c -ℤ b) +ℤ (w +ℤ w)) (take n ds) (take n es)
AreBelow-located w b c zero ds es xs p q many enough = tt
AreBelow-located w b c (suc n) [] es xs p q many enough = absurd (omega arith)
AreBelow-located w b c (suc n) (d ∷ ds) [] xs p q many enough = absurd (omega arith)
AreBelow-located w b c (suc n) (d ∷ ds) (e ∷ es) [] p q many enough = absurd p
AreBelow-located w b c (suc n) (d ∷ ds) (e ∷ es) (x ∷ xs) p q many enough =
    (omega (arith, ints, p.0, q.0), AreBelow-located w b c n ds es xs p.1 q.1 (omega arith) (omega arith))

pub length-located : (w b : ℤ) (ds xs : List ℤ) → Locate w b ds xs → length ds ≡ length xs
length-located w b [] [] p = refl
length-located w b (d ∷ ds) (x ∷ xs) p = ap suc (length-located w b ds xs p.1)
length-located w b ds xs p = absurd p

-- The middle two of four.

first_two_below : (c : ℤ) (xs ys : List ℤ) → AreBelow c xs ys → 2 ≤ length xs
    → sum_ℤ (take 2 xs) ≤ℤ (sum_ℤ (take 2 ys) +ℤ (c +ℤ c))
first_two_below c (x ∷ x1 ∷ xs) (y ∷ y1 ∷ ys) h two = omega (arith, ints, h.0, h.1.0)
first_two_below c (x ∷ x1 ∷ xs) [] h two = absurd h
first_two_below c (x ∷ x1 ∷ xs) (y ∷ []) h two = absurd h.1
first_two_below c xs ys h two = absurd (omega (arith, two))

middle_below : (c : ℤ) (xs ys : List ℤ) → AreBelow c xs ys → length xs ≡ 4
    → sum_ℤ (take 2 (drop 1 xs)) ≤ℤ (sum_ℤ (take 2 (drop 1 ys)) +ℤ (c +ℤ c))
middle_below c [] ys h four = absurd (omega (arith, four))
middle_below c (x ∷ xs) [] h four = absurd h
middle_below c (x ∷ xs) (y ∷ ys) h four = first_two_below c xs ys h.1 (omega (arith, four))

-- Halves.

half_below : (c y z : ℤ) → y ≤ℤ (z +ℤ (c +ℤ c)) → int_div y (pos 2) ≤ℤ (int_div z (pos 2) +ℤ (c +ℤ pos 1))
half_below c y z below =
    omega (arith, ints, half_about y, half_about z)

-- Averages.

fta-many : (notes : List ℤ) → 4 ≤ length notes → fta notes ≡ middle_half (take 4 notes)
fta-many notes enough = let many : nat_lt (length notes) 4 ≡ false = grind arith in rw many

pub fta-few : (notes : List ℤ) → length notes < 4 → fta notes ≡ pos 0
fta-few notes few = let short : nat_lt (length notes) 4 ≡ true = grind arith in rw short

middle_half-below : (c : ℤ) (ds es : List ℤ) → AreBelow c (take 4 ds) (take 4 es) → 4 ≤ length ds
    → middle_half (take 4 ds) ≤ℤ (middle_half (take 4 es) +ℤ (c +ℤ pos 1))
middle_half-below c ds es below enough =
    half_below c (sum_ℤ (take 2 (drop 1 (sorted (take 4 ds))))) (sum_ℤ (take 2 (drop 1 (sorted (take 4 es)))))
    (middle_below c (sorted (take 4 ds)) (sorted (take 4 es)) (AreBelow-sorted c (take 4 ds) (take 4 es) below)
    (length-sorted (take 4 ds) ∙ length-take-le 4 ds enough))

-- two clocks that noted four or more, the newest four of the same frames, each corrected by its average
pub corrected_apart : (w b c : ℤ) (ds es xs : List ℤ) → LocateNewest w b ds xs → LocateNewest w c es xs → 4 ≤ length ds
    → 4 ≤ length es
    → ((b +ℤ fta ds) -ℤ (c +ℤ fta es)) ≤ℤ ((w +ℤ w) +ℤ pos 1)
corrected_apart w b c ds es xs p q many enough =
    let below = middle_half-below ((c -ℤ b) +ℤ (w +ℤ w)) ds es (AreBelow-located w b c 4 ds es xs p q many enough) many
    in
    rw (fta-many ds many, fta-many es enough) (omega (arith, ints, below))

-- Clocks near which each frame was that a clock noted: the average leaves it near them.

pub fta-near : (w c k : ℤ) (notes : List ℤ) → IsUpTo w (c -ℤ k) → AreNear w c k notes
    → Between ((k -ℤ c) -ℤ w) ((k -ℤ c) +ℤ w) (fta notes)
fta-near w c k notes apart near =
    fta-between ((k -ℤ c) -ℤ w) ((k -ℤ c) +ℤ w) notes (omega (arith, ints)) (omega (arith, ints))
    (All-weaker (λ d. IsUpTo w ((c +ℤ d) -ℤ k)) (Between ((k -ℤ c) -ℤ w) ((k -ℤ c) +ℤ w))
    (λ d h. omega (arith, ints)) notes near)

pub corrected_near : (w c k : ℤ) (notes : List ℤ) → IsUpTo w (c -ℤ k) → AreNear w c k notes
    → IsUpTo w ((c +ℤ fta notes) -ℤ k)
corrected_near w c k notes apart near = omega (arith, ints, fta-near w c k notes apart near)
