-- Sorting keeps lists near one another: where each number of one list exceeds that of another by no more than c, so it
-- is with both in ascending order. It goes by the numbers alone, so that of any place may be put in last.
use Rattle.std.proofs.Common.{◌≡◌, ℕ, zero, suc, ◌<◌, ℤ, pos, ◌+ℤ◌, ◌≤ℤ◌, true, false, cond, List, [], ◌∷◌, length}
use Rattle.std.proofs.Common.{get_or, refl, ap, sym, ◌∙◌, arith}
use Rattle.std.specs.Prelude.{int_le}
use Rattle.std.proofs.lemmas.Bool.{cond_both}
use Rattle.std.proofs.lemmas.Int.{ints}
use Rattle.ttp_world.specs.Clock.{insert_sorted, sorted}
use Rattle.node_parts.specs.Pull.{without}
use Rattle.ttp_world.proofs.SmallTests.{le_of_test}

-- a list has as many numbers as another, and each exceeds that beside it by no more than c
abbrev pub AreBelow : ℤ → List ℤ → List ℤ → Type 0
AreBelow c [] [] = Unit {0}
AreBelow c [] (y ∷ ys) = ⊥
AreBelow c (x ∷ xs) [] = ⊥
AreBelow c (x ∷ xs) (y ∷ ys) = (x ≤ℤ (y +ℤ c)) × AreBelow c xs ys

-- Tests.

pub ge_of_test : (x y : ℤ) → int_le x y ≡ false → y ≤ℤ x
ge_of_test x y h = grind (arith, ints)

test_of_le : (x y : ℤ) → x ≤ℤ y → int_le x y ≡ true
test_of_le x y h = grind (arith, ints)

-- Ascending lists.

-- a number is at most the first of a list
abbrev pub IsFirst : ℤ → List ℤ → Type 0
IsFirst x [] = Unit {0}
IsFirst x (y ∷ ys) = x ≤ℤ y

abbrev pub IsAscending : List ℤ → Type 0
IsAscending [] = Unit {0}
IsAscending (x ∷ xs) = IsFirst x xs × IsAscending xs

-- such a number is put in front
insert-first : (x : ℤ) (xs : List ℤ) → IsFirst x xs → insert_sorted x xs ≡ x ∷ xs
insert-first x [] first = refl
insert-first x (y ∷ ys) first = ap (λ b. cond b (x ∷ y ∷ ys) (y ∷ insert_sorted x ys)) (test_of_le x y first)

IsFirst-insert : (x z : ℤ) (xs : List ℤ) → x ≤ℤ z → IsFirst x xs → IsFirst x (insert_sorted z xs)
IsFirst-insert x z [] below first = below
IsFirst-insert x z (y ∷ ys) below first =
    cond_both (int_le z y) (z ∷ y ∷ ys) (y ∷ insert_sorted z ys) (IsFirst x) (λ h. below) (λ h. first)

IsAscending-insert : (z : ℤ) (xs : List ℤ) → IsAscending xs → IsAscending (insert_sorted z xs)
IsAscending-insert z [] up = (tt, tt)
IsAscending-insert z (y ∷ ys) up =
    cond_both (int_le z y) (z ∷ y ∷ ys) (y ∷ insert_sorted z ys) IsAscending
    (λ h. (le_of_test z y h, up))
    (λ h. (IsFirst-insert y z ys (ge_of_test z y h) up.0, IsAscending-insert z ys up.1))

pub IsAscending-sorted : (xs : List ℤ) → IsAscending (sorted xs)
IsAscending-sorted [] = tt
IsAscending-sorted (x ∷ xs) = IsAscending-insert x (sorted xs) (IsAscending-sorted xs)

-- Sorting.

below_trans : (c x y z : ℤ) → x ≤ℤ y → y ≤ℤ (z +ℤ c) → x ≤ℤ (z +ℤ c)
below_trans c x y z p q = omega (arith, ints, p, q)

below_up : (c x y z : ℤ) → x ≤ℤ (y +ℤ c) → y ≤ℤ z → x ≤ℤ (z +ℤ c)
below_up c x y z p q = omega (arith, ints, p, q)

-- a list in ascending order keeps near when its first number is put in anew
AreBelow-front : (c x : ℤ) (xs zs : List ℤ) → IsFirst x xs → AreBelow c (insert_sorted x xs) zs → AreBelow c (x ∷ xs) zs
AreBelow-front c x xs zs first below = rw (insert-first x xs first) at below

AreBelow-back : (c y : ℤ) (ys zs : List ℤ) → IsFirst y ys → AreBelow c zs (insert_sorted y ys) → AreBelow c zs (y ∷ ys)
AreBelow-back c y ys zs first below = rw (insert-first y ys first) at below

AreBelow-insert : (c x y : ℤ) (xs ys : List ℤ) → IsAscending xs → IsAscending ys → x ≤ℤ (y +ℤ c) → AreBelow c xs ys
    → AreBelow c (insert_sorted x xs) (insert_sorted y ys)
AreBelow-insert c x y [] [] p q near rest = (near, tt)
AreBelow-insert c x y [] (v ∷ ys) p q near rest = absurd rest
AreBelow-insert c x y (u ∷ xs) [] p q near rest = absurd rest
AreBelow-insert c x y (u ∷ xs) (v ∷ ys) p q near rest =
    cond_both (int_le x u) (x ∷ u ∷ xs) (u ∷ insert_sorted x xs)
    (λ zs. AreBelow c zs (cond (int_le y v) (y ∷ v ∷ ys) (v ∷ insert_sorted y ys)))
    (λ xu. cond_both (int_le y v) (y ∷ v ∷ ys) (v ∷ insert_sorted y ys) (AreBelow c (x ∷ u ∷ xs))
    (λ yv. (near, rest))
    (λ yv. (
      below_trans c x u v (le_of_test x u xu) rest.0,
      AreBelow-front c u xs (insert_sorted y ys) p.0
          (AreBelow-insert c u y xs ys p.1 q.1 (below_up c u v y rest.0 (ge_of_test y v yv)) rest.1),
    )))
    (λ xu. cond_both (int_le y v) (y ∷ v ∷ ys) (v ∷ insert_sorted y ys) (AreBelow c (u ∷ insert_sorted x xs))
    (λ yv. (
      below_trans c u x y (ge_of_test x u xu) near,
      AreBelow-back c v ys (insert_sorted x xs) q.0
          (AreBelow-insert c x v xs ys p.1 q.1 (below_up c x y v near (le_of_test y v yv)) rest.1),
    ))
    (λ yv. (rest.0, AreBelow-insert c x y xs ys p.1 q.1 near rest.1)))

pub AreBelow-sorted : (c : ℤ) (xs ys : List ℤ) → AreBelow c xs ys → AreBelow c (sorted xs) (sorted ys)
AreBelow-sorted c [] [] below = tt
AreBelow-sorted c [] (y ∷ ys) below = absurd below
AreBelow-sorted c (x ∷ xs) [] below = absurd below
AreBelow-sorted c (x ∷ xs) (y ∷ ys) below =
    AreBelow-insert c x y (sorted xs) (sorted ys) (IsAscending-sorted xs) (IsAscending-sorted ys) below.0
    (AreBelow-sorted c xs ys below.1)

-- Lengths.

length-insert : (z : ℤ) (xs : List ℤ) → length (insert_sorted z xs) ≡ suc (length xs)
length-insert z [] = refl
length-insert z (y ∷ ys) =
    cond_both (int_le z y) (z ∷ y ∷ ys) (y ∷ insert_sorted z ys) (λ xs. length xs ≡ suc (suc (length ys))) (λ h. refl)
    (λ h. ap suc (length-insert z ys))

pub length-sorted : (xs : List ℤ) → length (sorted xs) ≡ length xs
length-sorted [] = refl
length-sorted (x ∷ xs) = length-insert x (sorted xs) ∙ ap suc (length-sorted xs)

-- The order in which numbers are put in.

both_ways : (x y : ℤ) → x ≤ℤ y → y ≤ℤ x → x ≡ y
both_ways x y p q = omega (arith, ints, p, q)

insert-past : (y z : ℤ) (zs : List ℤ) → int_le y z ≡ false → insert_sorted y (z ∷ zs) ≡ z ∷ insert_sorted y zs
insert-past y z zs after = ap (λ b. cond b (y ∷ z ∷ zs) (z ∷ insert_sorted y zs)) after

insert-second : (x y : ℤ) (zs : List ℤ) → x ≤ℤ y → IsFirst y zs → insert_sorted y (x ∷ zs) ≡ x ∷ y ∷ zs
insert-second x y zs order first =
    cond_both (int_le y x) (y ∷ x ∷ zs) (x ∷ insert_sorted y zs) (λ ws. ws ≡ x ∷ y ∷ zs)
    (λ yx. let same : x ≡ y = both_ways x y order (le_of_test y x yx) in λ i. sym same i ∷ same i ∷ zs)
    (λ yx. ap (λ ws. x ∷ ws) (insert-first y zs first))

later_test : (x y z : ℤ) → int_le y z ≡ false → x ≤ℤ z → int_le y x ≡ false
later_test x y z after before = grind (arith, ints)

pub le_trans : (x y z : ℤ) → x ≤ℤ y → y ≤ℤ z → x ≤ℤ z
le_trans x y z p q = omega (arith, ints, p, q)

insert-turns-le : (x y : ℤ) (zs : List ℤ) → x ≤ℤ y
    → insert_sorted x (insert_sorted y zs) ≡ insert_sorted y (insert_sorted x zs)
insert-turns-le x y [] order = insert-first x (y ∷ []) order ∙ sym (insert-second x y [] order tt)
insert-turns-le x y (z ∷ zs) order =
    cond_both (int_le y z) (y ∷ z ∷ zs) (z ∷ insert_sorted y zs)
    (λ ws. insert_sorted x ws ≡ insert_sorted y (insert_sorted x (z ∷ zs)))
    (λ yz. let below : y ≤ℤ z = le_of_test y z yz in
    insert-first x (y ∷ z ∷ zs) order
    ∙ sym (ap (insert_sorted y) (insert-first x (z ∷ zs) (le_trans x y z order below))
    ∙ insert-second x y (z ∷ zs) order below))
    (λ yz. cond_both (int_le x z) (x ∷ z ∷ zs) (z ∷ insert_sorted x zs)
    (λ ws. insert_sorted x (z ∷ insert_sorted y zs) ≡ insert_sorted y ws)
    (λ xz. let below : x ≤ℤ z = le_of_test x z xz in
    insert-first x (z ∷ insert_sorted y zs) below
    ∙ sym (insert-past y x (z ∷ zs) (later_test x y z yz below) ∙ ap (λ ws. x ∷ ws) (insert-past y z zs yz)))
    (λ xz. insert-past x z (insert_sorted y zs) xz ∙ ap (λ ws. z ∷ ws) (insert-turns-le x y zs order)
    ∙ sym (insert-past y z (insert_sorted x zs) yz)))

insert-turns : (x y : ℤ) (zs : List ℤ) → insert_sorted x (insert_sorted y zs) ≡ insert_sorted y (insert_sorted x zs)
insert-turns x y zs =
    cond_both (int_le x y) x y (λ least. insert_sorted x (insert_sorted y zs) ≡ insert_sorted y (insert_sorted x zs))
    (λ xy. insert-turns-le x y zs (le_of_test x y xy))
    (λ xy. sym (insert-turns-le y x zs (ge_of_test x y xy)))

-- the number at any place may be put in last
pub sorted-without : (n : ℕ) (zs : List ℤ) → n < length zs
    → sorted zs ≡ insert_sorted (get_or zs n (pos 0)) (sorted (without n zs))
sorted-without n [] inside = absurd (omega (arith, inside))
sorted-without zero (z ∷ zs) inside = refl
sorted-without (suc n) (z ∷ zs) inside =
    ap (insert_sorted z) (sorted-without n zs (omega (arith, inside)))
    ∙ insert-turns z (get_or zs n (pos 0)) (sorted (without n zs))

-- How far numbers are apart.

-- a number is at most this much away from each of these
abbrev pub IsWithinOf : ℤ → ℤ → List ℤ → Type 0
IsWithinOf w x [] = Unit {0}
IsWithinOf w x (y ∷ ys) = ((x ≤ℤ (y +ℤ w)) × (y ≤ℤ (x +ℤ w))) × IsWithinOf w x ys

-- any two of these are at most this much apart
abbrev pub AreWithin : ℤ → List ℤ → Type 0
AreWithin w [] = Unit {0}
AreWithin w (x ∷ xs) = IsWithinOf w x xs × AreWithin w xs

turned : (w x y : ℤ) → (x ≤ℤ (y +ℤ w)) × (y ≤ℤ (x +ℤ w)) → (y ≤ℤ (x +ℤ w)) × (x ≤ℤ (y +ℤ w))
turned w x y p = (p.1, p.0)

IsWithinOf-insert : (w x z : ℤ) (ys : List ℤ) → (x ≤ℤ (z +ℤ w)) × (z ≤ℤ (x +ℤ w)) → IsWithinOf w x ys
    → IsWithinOf w x (insert_sorted z ys)
IsWithinOf-insert w x z [] here rest = (here, tt)
IsWithinOf-insert w x z (y ∷ ys) here rest =
    cond_both (int_le z y) (z ∷ y ∷ ys) (y ∷ insert_sorted z ys) (IsWithinOf w x) (λ h. (here, rest))
    (λ h. (rest.0, IsWithinOf-insert w x z ys here rest.1))

AreWithin-insert : (w z : ℤ) (ys : List ℤ) → IsWithinOf w z ys → AreWithin w ys → AreWithin w (insert_sorted z ys)
AreWithin-insert w z [] here rest = (tt, tt)
AreWithin-insert w z (y ∷ ys) here rest =
    cond_both (int_le z y) (z ∷ y ∷ ys) (y ∷ insert_sorted z ys) (AreWithin w) (λ h. (here, rest))
    (λ h. (IsWithinOf-insert w y z ys (turned w z y here.0) rest.0, AreWithin-insert w z ys here.1 rest.1))

IsWithinOf-sorted : (w x : ℤ) (ys : List ℤ) → IsWithinOf w x ys → IsWithinOf w x (sorted ys)
IsWithinOf-sorted w x [] near = tt
IsWithinOf-sorted w x (y ∷ ys) near = IsWithinOf-insert w x y (sorted ys) near.0 (IsWithinOf-sorted w x ys near.1)

pub AreWithin-sorted : (w : ℤ) (xs : List ℤ) → AreWithin w xs → AreWithin w (sorted xs)
AreWithin-sorted w [] near = tt
AreWithin-sorted w (x ∷ xs) near =
    AreWithin-insert w x (sorted xs) (IsWithinOf-sorted w x xs near.0) (AreWithin-sorted w xs near.1)
