-- Where two nodes note three of four frames alike, their averages are about a shift apart, whatever each of them notes
-- of the fourth: wherever it lies, the middle two of the four add up to no less than the lower two of the three and to
-- no more than the upper two.
use Rattle.std.proofs.Common.{◌≡◌, ℕ, zero, suc, ◌<◌, ℤ, pos, neg_ℤ, ◌+ℤ◌, ◌-ℤ◌, ◌*ℤ◌, ◌≤ℤ◌, true, List, []}
use Rattle.std.proofs.Common.{◌∷◌, length, get_or, refl, ap, ◌∙◌, arith}
use Rattle.std.specs.Prelude.{int_le, int_div}
use Rattle.std.specs.List.{list_all}
use Rattle.std.proofs.lemmas.Bool.{cond_both, false≢true, and_parts}
use Rattle.std.proofs.lemmas.Int.{ints}
use Rattle.ttp_world.specs.Clock.{insert_sorted, sorted, fta}
use Rattle.ttp_world.specs.Hypothesis.{is_within_bound}
use Rattle.node_parts.specs.Pull.{without, are_near, are_within, twice_off, pulled}
use Rattle.node_parts.proofs.MiddleTwo.{middle_sum}
use Rattle.node_parts.proofs.Rounding.{IsAboutTwice, half_about}
use Rattle.node_parts.proofs.Sorted.{AreBelow, AreBelow-sorted, IsAscending, IsAscending-sorted, sorted-without}
use Rattle.node_parts.proofs.Sorted.{length-sorted, AreWithin, IsWithinOf, AreWithin-sorted, ge_of_test}
use Rattle.ttp_world.proofs.SmallTests.{le_of_test, test_of_both}

-- The middle two of three in order and a fourth.

-- a number lies between the sums of the lower two and of the upper two
abbrev IsMiddle : ℤ → ℤ → ℤ → ℤ → Type 0
IsMiddle x y z sum = ((x +ℤ y) ≤ℤ sum) × (sum ≤ℤ (y +ℤ z))

middle_of : (x y z u v : ℤ) → (x +ℤ y) ≤ℤ (u +ℤ v) → (u +ℤ v) ≤ℤ (y +ℤ z) → IsMiddle x y z (u +ℤ (v +ℤ pos 0))
middle_of x y z u v from upto = (omega (arith, ints, from), omega (arith, ints, upto))

middle_among : (p x y z : ℤ) → x ≤ℤ y → y ≤ℤ z → IsMiddle x y z (middle_sum (insert_sorted p (x ∷ y ∷ z ∷ [])))
middle_among p x y z xy yz =
    cond_both (int_le p x) _ _ (λ ws. IsMiddle x y z (middle_sum ws))
    (λ px. middle_of x y z x y (omega (arith, ints)) (omega (arith, ints, xy, yz)))
    (λ px. let below : x ≤ℤ p = ge_of_test p x px in
    cond_both (int_le p y) _ _ (λ ws. IsMiddle x y z (middle_sum (x ∷ ws)))
    (λ py. let above : p ≤ℤ y = le_of_test p y py in
    middle_of x y z p y (omega (arith, ints, below)) (omega (arith, ints, above, yz)))
    (λ py. let beyond : y ≤ℤ p = ge_of_test p y py in
    cond_both (int_le p z) _ _ (λ ws. IsMiddle x y z (middle_sum (x ∷ y ∷ ws)))
    (λ pz. let above : p ≤ℤ z = le_of_test p z pz in
    middle_of x y z y p (omega (arith, ints, xy, beyond)) (omega (arith, ints, above)))
    (λ pz. middle_of x y z y z (omega (arith, ints, xy, yz)) (omega (arith, ints)))))

-- Two such sums, where the three are near, place by place.

apart_of : (c e x y z u v w m n : ℤ) → IsMiddle x y z m → IsMiddle u v w n → y ≤ℤ (v +ℤ c) → z ≤ℤ (u +ℤ e)
    → m ≤ℤ (n +ℤ (c +ℤ e))
apart_of c e x y z u v w m n p q near far = omega (arith, ints, p.1, q.0, near, far)

-- how far the sum of the middle two of one list exceeds that of another
abbrev Exceeds : ℤ → List ℤ → List ℤ → Type 0
Exceeds e one other = middle_sum one ≤ℤ (middle_sum other +ℤ e)

across_first : (c w x z u : ℤ) → z ≤ℤ (x +ℤ w) → x ≤ℤ (u +ℤ c) → z ≤ℤ (u +ℤ (c +ℤ w))
across_first c w x z u p q = omega (arith, ints, p, q)

across_last : (c w x z u : ℤ) → z ≤ℤ (u +ℤ c) → u ≤ℤ (x +ℤ w) → z ≤ℤ (x +ℤ (c +ℤ w))
across_last c w x z u p q = omega (arith, ints, p, q)

-- of lists of three in order
upper_sum : (c w p q x y z u v t : ℤ) → IsAscending (x ∷ y ∷ z ∷ []) → IsAscending (u ∷ v ∷ t ∷ [])
    → AreBelow c (x ∷ y ∷ z ∷ []) (u ∷ v ∷ t ∷ []) → z ≤ℤ (u +ℤ (c +ℤ w))
    → Exceeds (c +ℤ (c +ℤ w)) (insert_sorted p (x ∷ y ∷ z ∷ [])) (insert_sorted q (u ∷ v ∷ t ∷ []))
upper_sum c w p q x y z u v t up down below far =
    apart_of c (c +ℤ w) x y z u v t (middle_sum (insert_sorted p (x ∷ y ∷ z ∷ [])))
    (middle_sum (insert_sorted q (u ∷ v ∷ t ∷ [])))
    (middle_among p x y z up.0 up.1.0)
    (middle_among q u v t down.0 down.1.0) below.1.0 far

-- both ways, where one of two lists of three in order is no wider than w
abbrev BothExceed : ℤ → ℤ → ℤ → List ℤ → List ℤ → Type 0
BothExceed c d w one other = Exceeds (c +ℤ (c +ℤ w)) one other × Exceeds (d +ℤ (d +ℤ w)) other one

three_apart : (c d w p q : ℤ) (xs ys : List ℤ) → length xs ≡ 3 → length ys ≡ 3 → IsAscending xs → IsAscending ys
    → AreBelow c xs ys → AreBelow d ys xs → AreWithin w xs
    → BothExceed c d w (insert_sorted p xs) (insert_sorted q ys)
three_apart c d w p q (x ∷ y ∷ z ∷ []) (u ∷ v ∷ t ∷ []) three trio up down below above wide = (
  upper_sum c w p q x y z u v t up down below (across_first c w x z u wide.0.1.0.1 below.0),
  upper_sum d w q p u v t x y z down up above (across_last d w x t z above.1.1.0 wide.0.1.0.1),
)
three_apart c d w p q [] ys three trio up down below above wide = absurd (omega (arith, three))
three_apart c d w p q (x ∷ []) ys three trio up down below above wide = absurd (omega (arith, three))
three_apart c d w p q (x ∷ y ∷ []) ys three trio up down below above wide = absurd (omega (arith, three))
three_apart c d w p q (x ∷ y ∷ z ∷ r ∷ xs) ys three trio up down below above wide = absurd (omega (arith, three))
three_apart c d w p q (x ∷ y ∷ z ∷ []) [] three trio up down below above wide = absurd (omega (arith, trio))
three_apart c d w p q (x ∷ y ∷ z ∷ []) (u ∷ []) three trio up down below above wide = absurd (omega (arith, trio))
three_apart c d w p q (x ∷ y ∷ z ∷ []) (u ∷ v ∷ []) three trio up down below above wide = absurd (omega (arith, trio))
three_apart c d w p q (x ∷ y ∷ z ∷ []) (u ∷ v ∷ t ∷ s ∷ ys) three trio up down below above wide =
    absurd (omega (arith, trio))

-- What the tests say.

both_of_test : (bound z : ℤ) → is_within_bound bound z ≡ true → (neg_ℤ bound ≤ℤ z) × (z ≤ℤ bound)
both_of_test bound z h = (grind (arith, ints), grind (arith, ints))

below_of : (shift near x y : ℤ) → (neg_ℤ near ≤ℤ ((x -ℤ y) -ℤ shift)) × (((x -ℤ y) -ℤ shift) ≤ℤ near)
    → x ≤ℤ (y +ℤ (near +ℤ shift))
below_of shift near x y h = omega (arith, ints, h.1)

above_of : (shift near x y : ℤ) → (neg_ℤ near ≤ℤ ((x -ℤ y) -ℤ shift)) × (((x -ℤ y) -ℤ shift) ≤ℤ near)
    → y ≤ℤ (x +ℤ (near -ℤ shift))
above_of shift near x y h = omega (arith, ints, h.0)

near_below : (shift near : ℤ) (xs ys : List ℤ) → are_near shift near xs ys ≡ true
    → AreBelow (near +ℤ shift) xs ys × AreBelow (near -ℤ shift) ys xs
near_below shift near [] [] h = (tt, tt)
near_below shift near [] (y ∷ ys) h = absurd (false≢true h)
near_below shift near (x ∷ xs) [] h = absurd (false≢true h)
near_below shift near (x ∷ xs) (y ∷ ys) h =
    let both = and_parts (is_within_bound near ((x -ℤ y) -ℤ shift)) (are_near shift near xs ys) h in
    let here = both_of_test near ((x -ℤ y) -ℤ shift) both.0 in
    let rest = near_below shift near xs ys both.1 in
    ((below_of shift near x y here, rest.0), (above_of shift near x y here, rest.1))

within_of : (w x y : ℤ) → (neg_ℤ w ≤ℤ (x -ℤ y)) × ((x -ℤ y) ≤ℤ w) → (x ≤ℤ (y +ℤ w)) × (y ≤ℤ (x +ℤ w))
within_of w x y h = (omega (arith, ints, h.1), omega (arith, ints, h.0))

each_within : (w x : ℤ) (ys : List ℤ) → list_all (λ y. is_within_bound w (x -ℤ y)) ys ≡ true → IsWithinOf w x ys
each_within w x [] h = tt
each_within w x (y ∷ ys) h =
    let both = and_parts (is_within_bound w (x -ℤ y)) (list_all (λ y. is_within_bound w (x -ℤ y)) ys) h in
    (within_of w x y (both_of_test w (x -ℤ y) both.0), each_within w x ys both.1)

all_within : (w : ℤ) (xs : List ℤ) → are_within w xs ≡ true → AreWithin w xs
all_within w [] h = tt
all_within w (x ∷ xs) h =
    let both = and_parts (list_all (λ y. is_within_bound w (x -ℤ y)) xs) (are_within w xs) h in
    (each_within w x xs both.0, all_within w xs both.1)

-- The law.

length-without : (n : ℕ) (zs : List ℤ) → n < length zs → suc (length (without n zs)) ≡ length zs
length-without n [] inside = absurd (omega (arith, inside))
length-without zero (z ∷ zs) inside = refl
length-without (suc n) (z ∷ zs) inside = ap suc (length-without n zs (omega (arith, inside)))

three_left : (n : ℕ) (zs : List ℤ) → n < 4 → length zs ≡ 4 → length (sorted (without n zs)) ≡ 3
three_left n zs inside four =
    let left : suc (length (without n zs)) ≡ length zs = length-without n zs (omega (arith, inside, four)) in
    length-sorted (without n zs) ∙ omega (arith, left, four)

sums_apart : (odd : ℕ) (shift near wide : ℤ) (a b : List ℤ) → odd < 4 → length a ≡ 4 → length b ≡ 4
    → are_near shift near (without odd a) (without odd b) ≡ true → are_within wide (without odd a) ≡ true
    → BothExceed (near +ℤ shift) (near -ℤ shift) wide (sorted a) (sorted b)
sums_apart odd shift near wide a b inside four many alike narrow =
    let below = near_below shift near (without odd a) (without odd b) alike in
    let of_three : BothExceed (near +ℤ shift) (near -ℤ shift) wide
    (insert_sorted (get_or a odd (pos 0)) (sorted (without odd a)))
    (insert_sorted (get_or b odd (pos 0)) (sorted (without odd b))) =
    three_apart (near +ℤ shift) (near -ℤ shift) wide (get_or a odd (pos 0)) (get_or b odd (pos 0))
    (sorted (without odd a)) (sorted (without odd b)) (three_left odd a inside four) (three_left odd b inside many)
    (IsAscending-sorted (without odd a)) (IsAscending-sorted (without odd b))
    (AreBelow-sorted (near +ℤ shift) (without odd a) (without odd b) below.0)
    (AreBelow-sorted (near -ℤ shift) (without odd b) (without odd a) below.1)
    (AreWithin-sorted wide (without odd a) (all_within wide (without odd a) narrow)) in
    rw (sorted-without odd a (omega (arith, inside, four)), sorted-without odd b (omega (arith, inside, many))) of_three

fta-four : (zs : List ℤ) → length zs ≡ 4 → fta zs ≡ int_div (middle_sum (sorted zs)) (pos 2)
fta-four (x ∷ y ∷ z ∷ w ∷ []) four = refl
fta-four [] four = absurd (omega (arith, four))
fta-four (x ∷ []) four = absurd (omega (arith, four))
fta-four (x ∷ y ∷ []) four = absurd (omega (arith, four))
fta-four (x ∷ y ∷ z ∷ []) four = absurd (omega (arith, four))
fta-four (x ∷ y ∷ z ∷ w ∷ v ∷ zs) four = absurd (omega (arith, four))

pulled_of : (shift near wide m n p q : ℤ) → m ≤ℤ (n +ℤ ((near +ℤ shift) +ℤ ((near +ℤ shift) +ℤ wide)))
    → n ≤ℤ (m +ℤ ((near -ℤ shift) +ℤ ((near -ℤ shift) +ℤ wide))) → IsAboutTwice p m → IsAboutTwice q n
    → is_within_bound (pulled near wide) (((p -ℤ q) -ℤ shift) *ℤ pos 2) ≡ true
pulled_of shift near wide m n p q above below first second =
    test_of_both (pulled near wide) (((p -ℤ q) -ℤ shift) *ℤ pos 2)
    (omega (arith, ints, below, first.0, first.1, second.0, second.1))
    (omega (arith, ints, above, first.0, first.1, second.0, second.1))

pub pull : (odd : ℕ) (shift near wide : ℤ) (a b : List ℤ) → odd < 4 → length a ≡ 4 → length b ≡ 4
    → are_near shift near (without odd a) (without odd b) ≡ true → are_within wide (without odd a) ≡ true
    → is_within_bound (pulled near wide) (twice_off a b shift) ≡ true
pull odd shift near wide a b inside four many alike narrow =
    let sums = sums_apart odd shift near wide a b inside four many alike narrow in
    rw (fta-four a four, fta-four b many)
    (pulled_of shift near wide (middle_sum (sorted a)) (middle_sum (sorted b))
    (int_div (middle_sum (sorted a)) (pos 2)) (int_div (middle_sum (sorted b)) (pos 2)) sums.0 sums.1
    (half_about (middle_sum (sorted a))) (half_about (middle_sum (sorted b))))
