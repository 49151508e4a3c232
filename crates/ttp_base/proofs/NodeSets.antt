-- Sets of nodes as lists of their members, and the words that stand for them.
use Rattle.std.proofs.Common.{◌≡◌, ◌≢◌, ℕ, zero, suc, ◌+◌, ◌*◌, ◌/◌, ◌%◌, ◌<◌, ◌≤◌, ◌^◌, Bool, true, false, cond, not}
use Rattle.std.proofs.Common.{◌&&◌, ◌||◌, eqb, List, [], ◌∷◌, length, Some, refl, ap, sym, subst, ◌∙◌, inl, inr}
use Rattle.std.proofs.Common.{add-one, arith}
use Rattle.std.specs.Prelude.{◌==◌}
use Rattle.std.specs.Int.{bit_at, bit_not, trailing_zeros, w32}
use Rattle.std.specs.Int.RustNames.{count_ones, bit_and, bit_or}
use Rattle.std.specs.List.{All, filter, range_with_len, slice_get}
use Rattle.std.proofs.Math.Nat.{div-one, mod-eq_of_lt, mod-one}
use Rattle.std.proofs.lemmas.Bool.{cases_eq, and_right, cases_lt, eq-eqb, eqb-true, false≢true, ne_eqb}
use Rattle.std.proofs.lemmas.List.Elements.{All-weaker, filter_passes}
use Rattle.std.proofs.lemmas.List.Folds.{list_any_at}
use Rattle.std.proofs.lemmas.List.FromFn.{get_or-range_with_len, length-range_with_len}
use Rattle.std.proofs.lemmas.Map.Views.{any-filter_same}
use Rattle.std.proofs.lemmas.Nat.{mod-pow-add, one_shl, ones_cat, or_lt, pow_below, pow_pos, shr-shr}
use Rattle.std.proofs.lemmas.Nat.Bits.{and_pow, bit_at_above, bit_at_clear_other, bit_at_clear_same, bit_at_set_other}
use Rattle.std.proofs.lemmas.Nat.Bits.{bit_at_set_same, bit_at-trailing_zeros, bit_at-lt}
use Rattle.ttp_base.specs.NodeSet.{most_nodes, below, has_node, with_node, without_node, set_bits, members_in}
use Rattle.ttp_base.specs.NodeSetWord.{bits_of_members}

-- ---- sets

-- a filter keeps those members that pass
pub has_node-filter : (p : ℕ → Bool) (xs : List ℕ) (j : ℕ) → has_node (filter p xs) j ≡ (p j && has_node xs j)
has_node-filter p xs j = any-filter_same (λ i. i == j) p (p j) (λ k same. ap p (eqb-true k j same)) xs

-- each number below n is among the numbers below n
pub has_node-below : (n j : ℕ) → j < n → has_node (below n) j ≡ true
has_node-below n j within =
    list_any_at (λ i. i == j) (below n) j 0 (omega (arith, length-range_with_len 0 n))
    (eq-eqb _ j (omega (arith, get_or-range_with_len 0 n j 0 within)))

-- a test and true are the test
pub and-true : (b : Bool) → (b && true) ≡ b
and-true true = refl
and-true false = refl

-- of the numbers below n, those that pass a test are the members of their filter
pub has_node-sieve : (p : ℕ → Bool) (n j : ℕ) → j < n → has_node (filter p (below n)) j ≡ p j
has_node-sieve p n j within =
    has_node-filter p (below n) j ∙ ap (λ b. p j && b) (has_node-below n j within) ∙ and-true (p j)

-- a node put in is a member, and the others are as they were
pub has_node-with : (s : List ℕ) (k j : ℕ) → j < most_nodes → has_node (with_node s k) j ≡ ((j == k) || has_node s j)
unfolding with_node
has_node-with s k = has_node-sieve (λ j. (j == k) || has_node s j) most_nodes

-- a node taken out is no member, and the others are as they were
pub has_node-without : (s : List ℕ) (k j : ℕ) → has_node (without_node s k) j ≡ (not (j == k) && has_node s j)
has_node-without s k = has_node-filter (λ j. not (j == k)) s

-- two tests that agree below a + n pick the same of the n numbers from a on
filter_agree-range : (p q : ℕ → Bool) (a n : ℕ) → ((j : ℕ) → j < a + n → p j ≡ q j)
    → filter p (range_with_len a n) ≡ filter q (range_with_len a n)
filter_agree-range p q a zero agree = refl
filter_agree-range p q a (suc n) agree =
    let rest = filter_agree-range p q (a + 1) n (λ j within. agree j (omega arith)) in
    let here = agree a (omega arith) in
    λ i. cond (here i) (a ∷ rest i) (rest i)

-- two tests that agree below n give one set
pub same_sieve : (p q : ℕ → Bool) (n : ℕ) → ((j : ℕ) → j < n → p j ≡ q j) → filter p (below n) ≡ filter q (below n)
same_sieve p q n agree = filter_agree-range p q 0 n (λ j within. agree j (omega arith))

-- a filter of a filter keeps what passes both
pub filter-filter : (p q : ℕ → Bool) (xs : List ℕ) → filter q (filter p xs) ≡ filter (λ x. p x && q x) xs
filter-filter p q [] = refl
filter-filter p q (x ∷ xs) = by (p x) (filter-filter p q xs)
  where
    by : (b : Bool) → filter q (filter p xs) ≡ filter (λ x. p x && q x) xs
        → filter q (cond b (x ∷ filter p xs) (filter p xs))
        ≡ cond (b && q x) (x ∷ filter (λ x. p x && q x) xs) (filter (λ x. p x && q x) xs)
    by true rest = ap (λ ys. cond (q x) (x ∷ ys) ys) rest
    by false rest = rest

-- the first of the n numbers from a on that passes a test
slice_get-filter : (p : ℕ → Bool) (a n t : ℕ) → a ≤ t → t < a + n → p t ≡ true → ((j : ℕ) → j < t → p j ≡ false)
    → slice_get (filter p (range_with_len a n)) 0 ≡ Some t
slice_get-filter p a zero t from to here before = absurd (omega arith)
slice_get-filter p a (suc n) t from to here before =
    elim (cases_eq a t) [
      | inl same ↦ let passes : p a ≡ true = ap p same ∙ here in rw passes (ap Some same)
      | inr other ↦
          let fails : p a ≡ false = before a (omega arith) in
          rw fails (slice_get-filter p (a + 1) n t (omega arith) (omega arith) here before)
    ]

-- ---- words

-- the test of a bit
abbrev is_set : ℕ → ℕ → Bool
is_set word k = bit_at word k == 1

-- a bit that is 1 is set, and one that is 0 is not
is_set-yes : (word k : ℕ) → bit_at word k ≡ 1 → is_set word k ≡ true
is_set-yes word k = eq-eqb (bit_at word k) 1

is_set-no : (word k : ℕ) → bit_at word k ≡ 0 → is_set word k ≡ false
is_set-no word k none = ap (λ b. b == 1) none

-- a node is a member where its bit is set
pub has_node-members_in : (word k : ℕ) → k < most_nodes → has_node (members_in word) k ≡ (bit_at word k == 1)
unfolding members_in
has_node-members_in word = has_node-sieve (is_set word) most_nodes

-- a word of 0 has no members
pub members_in-zero : members_in 0 ≡ []
unfolding members_in
members_in-zero = refl

-- the word with a bit set, and with a bit cleared
abbrev pub with_bit : ℕ → ℕ → ℕ
with_bit word k = bit_or word (1 * 2 ^ k % 2 ^ 32)

abbrev pub without_bit : ℕ → ℕ → ℕ
without_bit word k = bit_and word (bit_not w32 (1 * 2 ^ k % 2 ^ 32))

-- a word with one more of its bits set still fits
pub with_bit_fits : (word k : ℕ) → word < 2 ^ most_nodes → k < most_nodes → with_bit word k < 2 ^ most_nodes
with_bit_fits word k fits within =
    subst (λ mask. bit_or word mask < 2 ^ most_nodes) (sym (one_shl k 32 (omega arith)))
    (or_lt most_nodes word (2 ^ k) fits (pow_below k most_nodes within))

-- to set a bit is to put a node in
pub members_in-with : (word k : ℕ) (s : List ℕ) → members_in word ≡ s → k < most_nodes
    → members_in (with_bit word k) ≡ with_node s k
unfolding members_in with_node
members_in-with word k s is within =
    same_sieve (is_set (with_bit word k)) (λ j. (j == k) || has_node s j) most_nodes each
  where
    each : (j : ℕ) → j < most_nodes → is_set (with_bit word k) j ≡ ((j == k) || has_node s j)
    each j small =
        let was : is_set word j ≡ has_node s j = sym (has_node-members_in word j small) ∙ ap (λ t. has_node t j) is in
        elim (cases_eq j k) [
          | inl same ↦ is_set-yes (with_bit word k) j
              (ap (bit_at (with_bit word k)) same ∙ bit_at_set_same w32 word k (omega arith))
              ∙ ap (λ b. b || has_node s j) (sym (eq-eqb j k same))
          | inr other ↦ ap (λ b. b == 1) (bit_at_set_other w32 word k (omega arith) j other) ∙ was
              ∙ ap (λ b. b || has_node s j) (sym (ne_eqb j k other))
        ]

-- to clear a bit is to take a node out
pub members_in-without : (word k : ℕ) (s : List ℕ) → members_in word ≡ s → k < most_nodes
    → members_in (without_bit word k) ≡ without_node s k
unfolding members_in
members_in-without word k s is within =
    same_sieve (is_set (without_bit word k)) (λ j. is_set word j && not (j == k)) most_nodes each
    ∙ sym (filter-filter (is_set word) (λ j. not (j == k)) (below most_nodes)) ∙ ap (λ t. without_node t k) is
  where
    each : (j : ℕ) → j < most_nodes → is_set (without_bit word k) j ≡ (is_set word j && not (j == k))
    each j small =
        elim (cases_eq j k) [
          | inl same ↦
              is_set-no (without_bit word k) j
              (ap (bit_at (without_bit word k)) same ∙ bit_at_clear_same w32 word k (omega arith))
              ∙ sym (and_right (is_set word j) (not (j == k)) (ap not (eq-eqb j k same)))
          | inr other ↦
              ap (λ b. b == 1) (bit_at_clear_other w32 word k (omega arith) j (omega arith) other)
              ∙ sym (and-true (is_set word j)) ∙ ap (λ b. is_set word j && not b) (sym (ne_eqb j k other))
        ]

-- the test of a bit by a mask
pub members_in-has : (word k : ℕ) (s : List ℕ) → members_in word ≡ s → k < most_nodes
    → not (eqb (bit_and word (1 * 2 ^ k % 2 ^ 32)) 0) ≡ has_node s k
members_in-has word k s is within =
    ap (λ b. not (eqb b 0)) (ap (bit_and word) (one_shl k 32 (omega arith)) ∙ and_pow word k)
    ∙ by (bit_at word k) (bit_at-lt word k) ∙ sym (has_node-members_in word k within) ∙ ap (λ t. has_node t k) is
  where
    by : (bit : ℕ) → bit < 2 → not (eqb (bit * 2 ^ k) 0) ≡ (bit == 1)
    by zero small = let none : 0 * 2 ^ k ≡ 0 = omega arith in ap (λ b. not (eqb b 0)) none
    by (suc zero) small =
        let some : 1 * 2 ^ k ≢ 0 = λ none. omega (arith, pow_pos k) in ap not (ne_eqb (1 * 2 ^ k) 0 some)
    by (suc (suc bit)) small = absurd (omega arith)

-- a node put before others counts where its bit is set
length-cond : (bit a : ℕ) (xs : List ℕ) → bit < 2 → length (cond (bit == 1) (a ∷ xs) xs) ≡ length xs + count_ones bit
unfolding count_ones
length-cond zero a xs small = omega arith
length-cond (suc zero) a xs small = omega arith
length-cond (suc (suc bit)) a xs small = absurd (omega arith)

-- of the n bits of a word from bit a on, as many are set as there are members
ones_from : (word a n : ℕ) → length (filter (is_set word) (range_with_len a n)) ≡ count_ones (word / 2 ^ a % 2 ^ n)
unfolding count_ones
ones_from word a zero = sym (ap count_ones (mod-one (word / 2 ^ a)))
ones_from word a (suc n) =
    let high = word / 2 ^ a in
    let bit = high % 2 in
    let rest = high / 2 % 2 ^ n in
    let split : rest * 2 ^ 1 + bit ≡ high % 2 ^ suc n =
    sym (mod-pow-add high n 1) ∙ ap (λ j. high % 2 ^ j) (add-one n) in
    let later : length (filter (is_set word) (range_with_len (a + 1) n)) ≡ count_ones rest =
    ones_from word (a + 1) n ∙ ap (λ h. count_ones (h % 2 ^ n)) (sym (shr-shr word a 1)) in
    length-cond bit a (filter (is_set word) (range_with_len (a + 1) n)) (omega arith)
    ∙ ap (λ l. l + count_ones bit) later ∙ sym (ones_cat 1 rest bit (omega arith)) ∙ ap count_ones split

-- there are as many members as bits that are set
pub length-members_in : (word : ℕ) (s : List ℕ) → members_in word ≡ s → word < 2 ^ most_nodes
    → count_ones word ≡ length s
unfolding members_in
length-members_in word s is fits =
    sym (ap count_ones (ap (λ w. w % 2 ^ most_nodes) (div-one word) ∙ mod-eq_of_lt fits))
    ∙ sym (ones_from word 0 most_nodes) ∙ ap length is

-- a number below 2 ^ n has its bits below n
bit_at_within : (word n k : ℕ) → word < 2 ^ n → bit_at word k ≡ 1 → k < n
bit_at_within word n k fits set =
    elim (cases_lt k n) [
      | inl less ↦ less
      | inr more ↦ absurd (omega (arith, bit_at_above word n k fits more))
    ]

-- the word is that of its members
pub set_bits-members_in : (word : ℕ) (s : List ℕ) → members_in word ≡ s → word < 2 ^ most_nodes → word ≡ set_bits s
set_bits-members_in word s is fits = sym (bits_of_members word fits) ∙ ap set_bits is

-- the lowest bit that is set is that of the least member
pub members_in-first : (word : ℕ) (s : List ℕ) → members_in word ≡ s → 0 < word → word < 2 ^ most_nodes
    → (Some (trailing_zeros w32 word) ≡ slice_get s 0) × All (λ j. trailing_zeros w32 word ≤ j) s
unfolding members_in
members_in-first word s is some fits = (sym value ∙ ap (λ t. slice_get t 0) is, subst (All (λ j. least ≤ j)) is all)
  where
    least : ℕ
    least = trailing_zeros w32 word

    place : (least < 32) × (bit_at word least ≡ 1) × ((j : ℕ) → j < least → bit_at word j ≡ 0)
    place = bit_at-trailing_zeros w32 word some (omega arith)

    small : least < most_nodes
    small = bit_at_within word most_nodes least fits place.1

    value : slice_get (filter (is_set word) (below most_nodes)) 0 ≡ Some least
    value =
        slice_get-filter (is_set word) 0 most_nodes least (omega arith) (omega (arith, small))
        (is_set-yes word least place.1) (λ j before. is_set-no word j (place.2 j before))

    each : (j : ℕ) → is_set word j ≡ true → least ≤ j
    each j set =
        elim (cases_lt j least)
        [ inl before ↦ absurd (false≢true (sym (is_set-no word j (place.2 j before)) ∙ set)) | inr more ↦ more ]

    all : All (λ j. least ≤ j) (filter (is_set word) (below most_nodes))
    all =
        All-weaker (λ j. is_set word j ≡ true) (λ j. least ≤ j) each (filter (is_set word) (below most_nodes))
        (filter_passes (is_set word) (below most_nodes))

-- what the methods need, of the words that stand for sets
pub ruleset words = (
  members_in-zero,
  members_in-with,
  members_in-without,
  members_in-has,
  members_in-first,
  length-members_in,
  set_bits-members_in,
  with_bit_fits,
)
