-- Bits that are flipped: one flip after another, and each bit once.
use Rattle.std.proofs.Common.{◌≡◌, ℕ, zero, suc, ◌+◌, ◌<◌, ◌≤◌, ◌%◌, Bool, true, false, cond}
use Rattle.std.proofs.Common.{not, ◌&&◌, ◌||◌, List, [], ◌∷◌, ◌++◌, Option, Some, None}
use Rattle.std.proofs.Common.{length, take, drop, refl, ap, sym, ◌∙◌, arith, get_or, add-one, drop-cons}
use Rattle.std.proofs.lemmas.Bool.Decides.{nat_tests}
use Rattle.std.proofs.lemmas.List.{append-nil, length-take}
use Rattle.std.proofs.lemmas.List.Elements.{filter-append, filter_map-append}
use Rattle.std.proofs.lemmas.List.Sums.{sum_by-cons}
use Rattle.std.specs.List.{cons_option}
use Rattle.std.specs.Prelude.{◌==◌, filter, count_by}
use Rattle.causes.specs.LinesOf.{each_first}
use Rattle.causes.specs.Members.{is_one_of}
use Rattle.entry_causes.specs.Hearing.{first_bits}
use Rattle.ttp_base.specs.NodeSet.{has_node}
use Rattle.ttp_world.proofs.MemberSets.{eqb_comm}
use Rattle.ttp_world.specs.Events.{bit_on, bits_on, is_among}
use Rattle.ttp_world.specs.declared.events.FlippedBit.{FlippedBit}
use Rattle.ttp_world.specs.declared.script.Channel.{Channel}

-- Each bit once.

-- a bit that is not there yet comes behind the others
other-of : (y x : ℕ) (there : Bool)
    → filter (λ other. not (other == y)) (cond there [] (x ∷ [])) ≡ cond ((y == x) || there) [] (x ∷ [])
other-of y x true = none (y == x)
  where
    none : (b : Bool) → [] ≡ cond (b || true) [] (x ∷ [])
    none true = refl
    none false = refl
other-of y x false = ap (λ (b : Bool). cond (not b) (x ∷ []) []) (eqb_comm x y) ∙ one (y == x)
  where
    one : (b : Bool) → cond (not b) (x ∷ []) [] ≡ cond (b || false) [] (x ∷ [])
    one true = refl
    one false = refl

each_first-one : (xs : List ℕ) (x : ℕ) → each_first (xs ++ x ∷ []) ≡ each_first xs ++ cond (has_node xs x) [] (x ∷ [])
each_first-one [] x = refl
each_first-one (y ∷ ys) x =
    ap (λ (bits : List ℕ). y ∷ filter (λ other. not (other == y)) bits) (each_first-one ys x)
    ∙ ap (λ (bits : List ℕ). y ∷ bits)
    (filter-append (λ other. not (other == y)) (each_first ys) (cond (has_node ys x) [] (x ∷ []))
    ∙ ap (λ (bits : List ℕ). filter (λ other. not (other == y)) (each_first ys) ++ bits) (other-of y x (has_node ys x)))

-- One flip after another.

has-option : (o : Option ℕ) (xs : List ℕ) (bit : ℕ)
    → has_node (cons_option o xs) bit ≡ (has_node (cons_option o []) bit || has_node xs bit)
has-option None xs bit = refl
has-option (Some b) xs bit = or-or (b == bit) (has_node xs bit)
  where
    or-or : (x y : Bool) → (x || y) ≡ ((x || false) || y)
    or-or true y = refl
    or-or false y = refl

pub has-next : (c : Channel) (flips : List FlippedBit) (i : ℕ) (d : FlippedBit) (bit : ℕ) → i < length flips
    → has_node (bits_on c (drop i flips)) bit
    ≡ (has_node (bits_on c (get_or flips i d ∷ [])) bit || has_node (bits_on c (drop (i + 1) flips)) bit)
has-next c flips i d bit within =
    ap (λ (left : List FlippedBit). has_node (bits_on c left) bit) (drop-cons flips i d within)
    ∙ has-option (bit_on c (get_or flips i d)) (bits_on c (drop (suc i) flips)) bit
    ∙ ap (λ (n : ℕ). has_node (bits_on c (get_or flips i d ∷ [])) bit || has_node (bits_on c (drop n flips)) bit)
    (sym (add-one i))

-- an odd count, with one more or not
abbrev count_odd : ℕ → List ℕ → Bool
count_odd bit xs = count_by (λ other. other == bit) xs % 2 == 1

odd-suc : (n : ℕ) → ((1 + n) % 2 == 1) ≡ not (n % 2 == 1)
odd-suc n = grind (arith, nat_tests)

odd-option : (odd : Bool) (o : Option ℕ) (xs : List ℕ) (bit : ℕ)
    → is_one_of odd (count_odd bit (cons_option o xs))
    ≡ is_one_of (is_one_of odd (has_node (cons_option o []) bit)) (count_odd bit xs)
odd-option true None xs bit = refl
odd-option false None xs bit = refl
odd-option odd (Some b) xs bit =
    ap (λ (n : ℕ). is_one_of odd (n % 2 == 1)) (sum_by-cons (λ other. cond (other == bit) 1 0) b xs)
    ∙ by odd (b == bit)
  where
    not-not : (x : Bool) → not (not x) ≡ x
    not-not true = refl
    not-not false = refl

    none : (n : ℕ) → 0 + n ≡ n
    none n = omega arith

    by : (odd hit : Bool)
        → is_one_of odd ((cond hit 1 0 + count_by (λ other. other == bit) xs) % 2 == 1)
        ≡ is_one_of (is_one_of odd (hit || false)) (count_odd bit xs)
    by true true = ap not (odd-suc (count_by (λ other. other == bit) xs)) ∙ not-not (count_odd bit xs)
    by true false = ap (λ (n : ℕ). not (n % 2 == 1)) (none (count_by (λ other. other == bit) xs))
    by false true = odd-suc (count_by (λ other. other == bit) xs)
    by false false = ap (λ (n : ℕ). n % 2 == 1) (none (count_by (λ other. other == bit) xs))

pub odd-next : (c : Channel) (flips : List FlippedBit) (i : ℕ) (d : FlippedBit)
    (bit : ℕ) (odd hit : Bool) → i < length flips
    → hit ≡ has_node (bits_on c (get_or flips i d ∷ [])) bit
    → is_one_of odd (count_by (λ other. other == bit) (bits_on c (drop i flips)) % 2 == 1)
    ≡ is_one_of (is_one_of odd hit) (count_by (λ other. other == bit) (bits_on c (drop (i + 1) flips)) % 2 == 1)
odd-next c flips i d bit odd hit within is =
    ap (λ (left : List FlippedBit). is_one_of odd (count_odd bit (bits_on c left))) (drop-cons flips i d within)
    ∙ odd-option odd (bit_on c (get_or flips i d)) (bits_on c (drop (suc i) flips)) bit
    ∙ (λ j. is_one_of (is_one_of odd (sym is j)) (count_odd bit (bits_on c (drop (sym (add-one i) j) flips))))

-- The bits that a flip brings anew.

-- those of one flip that pass a test
abbrev bit_of : Channel → FlippedBit → (ℕ → Bool) → List ℕ
bit_of c flip p = cond (is_among c flip.channels && p flip.bit) (flip.bit ∷ []) []

one-bit : (c : Channel) (flip : FlippedBit) (p : ℕ → Bool) → filter p (bits_on c (flip ∷ [])) ≡ bit_of c flip p
one-bit c flip p = by (is_among c flip.channels)
  where
    by : (there : Bool) → filter p (cons_option (cond there (Some flip.bit) None) [])
        ≡ cond (there && p flip.bit) (flip.bit ∷ []) []
    by true = refl
    by false = refl

taken-one : (flips : List FlippedBit) (at : ℕ) (d : FlippedBit) → at < length flips
    → take 1 (drop at flips) ≡ get_or flips at d ∷ []
taken-one flips at d within = ap (take 1) (drop-cons flips at d within)

pub first-bits : (c : Channel) (flips : List FlippedBit) (at : ℕ) (d : FlippedBit) (t : ℕ → Bool) → at < length flips
    → filter t (first_bits c flips at)
    ≡ cond ((is_among c (get_or flips at d).channels
    && not (has_node (bits_on c (take at flips)) (get_or flips at d).bit))
    && t (get_or flips at d).bit) ((get_or flips at d).bit ∷ []) []
first-bits c flips at d t within =
    let flip = get_or flips at d in
    ap (λ (some : List FlippedBit).
    filter t (filter (λ bit. not (has_node (bits_on c (take at flips)) bit)) (bits_on c some)))
    (taken-one flips at d within)
    ∙ ap (filter t) (one-bit c flip (λ bit. not (has_node (bits_on c (take at flips)) bit)))
    ∙ by (is_among c flip.channels && not (has_node (bits_on c (take at flips)) flip.bit)) flip.bit
  where
    by : (there : Bool) (bit : ℕ) → filter t (cond there (bit ∷ []) []) ≡ cond (there && t bit) (bit ∷ []) []
    by true bit = refl
    by false bit = refl

-- each bit once, with one flip more
pub firsts-next : (c : Channel) (flips : List FlippedBit) (at : ℕ) → at < length flips
    → each_first (bits_on c (take (at + 1) flips)) ≡ each_first (bits_on c (take at flips)) ++ first_bits c flips at
firsts-next c flips at within =
    ap (λ (some : List FlippedBit). each_first (bits_on c some)) (take-more flips at)
    ∙ ap each_first (filter_map-append (bit_on c) (take at flips) (take 1 (drop at flips)))
    ∙ gained (bits_on c (take at flips)) (take 1 (drop at flips)) (few flips at)
  where
    same : (i : ℕ) → suc i + 1 ≡ suc (i + 1)
    same i = omega arith

    take-more : {X : Type 0} (xs : List X) (i : ℕ) → take (i + 1) xs ≡ take i xs ++ take 1 (drop i xs)
    take-more [] zero = refl
    take-more {X = X} [] (suc i) = ap (λ (n : ℕ). take {A = X} n []) (same i)
    take-more (x ∷ xs) zero = refl
    take-more {X = X} (x ∷ xs) (suc i) = ap (λ (n : ℕ). take n (x ∷ xs)) (same i)
        ∙ ap (λ (ys : List X). x ∷ ys) (take-more xs i)

    few : {X : Type 0} (xs : List X) (i : ℕ) → length (take 1 (drop i xs)) ≤ 1
    few xs i = omega (arith, length-take 1 (drop i xs))

    new-option : (seen : List ℕ) (o : Option ℕ)
        → each_first (seen ++ cons_option o []) ≡ each_first seen
        ++ filter (λ bit. not (has_node seen bit)) (cons_option o [])
    new-option seen None = ap each_first (append-nil seen) ∙ sym (append-nil (each_first seen))
    new-option seen (Some bit) =
        each_first-one seen bit ∙ ap (λ (bits : List ℕ). each_first seen ++ bits) (turned (has_node seen bit))
      where
        turned : (b : Bool) → cond b [] (bit ∷ []) ≡ cond (not b) (bit ∷ []) []
        turned true = refl
        turned false = refl

    gained : (seen : List ℕ) (some : List FlippedBit) → length some ≤ 1
        → each_first (seen ++ bits_on c some) ≡ each_first seen
        ++ filter (λ bit. not (has_node seen bit)) (bits_on c some)
    gained seen [] less = ap each_first (append-nil seen) ∙ sym (append-nil (each_first seen))
    gained seen (x ∷ []) less = new-option seen (bit_on c x)
    gained seen (x ∷ y ∷ others) less = absurd (omega (arith, less))
