-- The middle two of four numbers: of two pairs the greater of the smaller ones and the smaller of the greater ones.
use Rattle.std.proofs.Common.{◌≡◌, ℤ, pos, ◌+ℤ◌, ◌≤ℤ◌, List, [], ◌∷◌, take, drop, ap, ◌∙◌, arith}
use Rattle.std.specs.Prelude.{int_le, int_div}
use Rattle.std.specs.Int.{int_min, int_max}
use Rattle.std.proofs.lemmas.Bool.{cond_both}
use Rattle.std.proofs.lemmas.Int.{ints, clamps}
use Rattle.ttp_world.specs.Clock.{insert_sorted, sorted, middle_half}
use Rattle.ttp_world.specs.Script.{sum_ℤ}
use Rattle.node_parts.proofs.Sorted.{ge_of_test}
use Rattle.ttp_world.proofs.SmallTests.{le_of_test}

-- the sum of the second and the third
abbrev pub middle_sum : List ℤ → ℤ
middle_sum xs = sum_ℤ (take 2 (drop 1 xs))

plus_none : (x y z : ℤ) → x +ℤ y ≡ z → x +ℤ (y +ℤ pos 0) ≡ z
plus_none x y z is = omega (arith, ints, is)

-- a number put among three in order
among_three : (a p q r z : ℤ) → (a ≤ℤ p → p +ℤ q ≡ z) → (p ≤ℤ a → a ≤ℤ q → a +ℤ q ≡ z) → (q ≤ℤ a → a ≤ℤ r → q +ℤ a ≡ z)
    → (q ≤ℤ a → r ≤ℤ a → q +ℤ r ≡ z) → middle_sum (insert_sorted a (p ∷ q ∷ r ∷ [])) ≡ z
among_three a p q r z first second third fourth =
    cond_both (int_le a p) _ _ (λ xs. middle_sum xs ≡ z)
    (λ ap. plus_none p q z (first (le_of_test a p ap)))
    (λ ap. cond_both (int_le a q) _ _ (λ xs. middle_sum (p ∷ xs) ≡ z)
    (λ aq. plus_none a q z (second (ge_of_test a p ap) (le_of_test a q aq)))
    (λ aq. cond_both (int_le a r) _ _ (λ xs. middle_sum (p ∷ q ∷ xs) ≡ z)
    (λ ar. plus_none q a z (third (ge_of_test a q aq) (le_of_test a r ar)))
    (λ ar. plus_none q r z (fourth (ge_of_test a q aq) (ge_of_test a r ar)))))

-- the middle two of two numbers and an ordered pair
abbrev pub paired_sum : ℤ → ℤ → ℤ → ℤ → ℤ
paired_sum a b x y = int_max (int_min a b) x +ℤ int_min (int_max a b) y

lowest_second : (a b x y : ℤ) → x ≤ℤ y → b ≤ℤ x → middle_sum (insert_sorted a (b ∷ x ∷ y ∷ [])) ≡ paired_sum a b x y
lowest_second a b x y order bx = among_three a b x y (paired_sum a b x y)
    (λ h. omega (arith, ints, clamps, order, bx, h)) (λ g h. omega (arith, ints, clamps, order, bx, g, h))
    (λ g h. omega (arith, ints, clamps, order, bx, g, h)) (λ g h. omega (arith, ints, clamps, order, bx, g, h))

middle_second : (a b x y : ℤ) → x ≤ℤ b → b ≤ℤ y → middle_sum (insert_sorted a (x ∷ b ∷ y ∷ [])) ≡ paired_sum a b x y
middle_second a b x y xb by = among_three a x b y (paired_sum a b x y)
    (λ h. omega (arith, ints, clamps, xb, by, h)) (λ g h. omega (arith, ints, clamps, xb, by, g, h))
    (λ g h. omega (arith, ints, clamps, xb, by, g, h)) (λ g h. omega (arith, ints, clamps, xb, by, g, h))

greatest_second : (a b x y : ℤ) → x ≤ℤ y → y ≤ℤ b → middle_sum (insert_sorted a (x ∷ y ∷ b ∷ [])) ≡ paired_sum a b x y
greatest_second a b x y order yb = among_three a x y b (paired_sum a b x y)
    (λ h. omega (arith, ints, clamps, order, yb, h)) (λ g h. omega (arith, ints, clamps, order, yb, g, h))
    (λ g h. omega (arith, ints, clamps, order, yb, g, h)) (λ g h. omega (arith, ints, clamps, order, yb, g, h))

among_pair : (a b x y : ℤ) → x ≤ℤ y → middle_sum (insert_sorted a (insert_sorted b (x ∷ y ∷ []))) ≡ paired_sum a b x y
among_pair a b x y order =
    cond_both (int_le b x) _ _ (λ xs. middle_sum (insert_sorted a xs) ≡ paired_sum a b x y)
    (λ bx. lowest_second a b x y order (le_of_test b x bx))
    (λ bx. cond_both (int_le b y) _ _ (λ xs. middle_sum (insert_sorted a (x ∷ xs)) ≡ paired_sum a b x y)
    (λ by. middle_second a b x y (ge_of_test b x bx) (le_of_test b y by))
    (λ by. greatest_second a b x y order (ge_of_test b y by)))

min_first : (x y : ℤ) → x ≤ℤ y → x ≡ int_min x y
min_first x y h = omega (arith, ints, clamps, h)

min_second : (x y : ℤ) → y ≤ℤ x → y ≡ int_min x y
min_second x y h = omega (arith, ints, clamps, h)

max_first : (x y : ℤ) → y ≤ℤ x → x ≡ int_max x y
max_first x y h = omega (arith, ints, clamps, h)

max_second : (x y : ℤ) → x ≤ℤ y → y ≡ int_max x y
max_second x y h = omega (arith, ints, clamps, h)

middle_sum-sorted : (a b c d : ℤ)
    → middle_sum (sorted (a ∷ b ∷ c ∷ d ∷ [])) ≡ paired_sum a b (int_min c d) (int_max c d)
middle_sum-sorted a b c d =
    cond_both (int_le c d) _ _
    (λ xs. middle_sum (insert_sorted a (insert_sorted b xs)) ≡ paired_sum a b (int_min c d) (int_max c d))
    (λ cd. let h : c ≤ℤ d = le_of_test c d cd in among_pair a b c d h
    ∙ (λ i. paired_sum a b (min_first c d h i) (max_second c d h i)))
    (λ cd. let h : d ≤ℤ c = ge_of_test c d cd in among_pair a b d c h
    ∙ (λ i. paired_sum a b (min_second c d h i) (max_first c d h i)))

pub middle_half-paired : (a b c d : ℤ)
    → middle_half (a ∷ b ∷ c ∷ d ∷ []) ≡ int_div (paired_sum a b (int_min c d) (int_max c d)) (pos 2)
middle_half-paired a b c d = ap (λ s. int_div s (pos 2)) (middle_sum-sorted a b c d)
