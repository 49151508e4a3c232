-- Sets of nodes below a number of bits, as 16 or 24: each has a word of so many bits that stands for it.
use Rattle.std.proofs.Common.{◌≡◌, ℕ, zero, suc, ◌+◌, ◌-◌, ◌*◌, ◌/◌, ◌%◌, ◌<◌, ◌≤◌, ◌^◌, Bool, true, false, cond}
use Rattle.std.proofs.Common.{bit_or, List, [], ◌∷◌, ◌++◌, append-nil, refl, ap, sym, subst, ◌∙◌, zero-lt-suc, arith}
use Rattle.std.specs.Prelude.{◌==◌}
use Rattle.std.specs.Int.{bit_at, bit_not, w32}
use Rattle.std.specs.List.{filter, range_with_len}
use Rattle.std.proofs.Math.Nat.{pow-le-pow_right}
use Rattle.std.proofs.lemmas.List.Elements.{filter-append}
use Rattle.std.proofs.lemmas.Nat.{and_le_l, one_shl, or_lt, pow_below, pow_pos}
use Rattle.std.proofs.lemmas.Nat.Bits.{bit_at_above, bit_at_lowest, bit_at-suc}
use Rattle.ttp_base.specs.NodeSet.{most_nodes, below, with_node, without_node, set_bits, members_in}
use Rattle.ttp_base.specs.NodeSetWord.{bits_of_members}
use Rattle.ttp_base.proofs.NodeLists.{filter-none, with_node-nil}
use Rattle.ttp_base.proofs.NodeSets.{members_in-with, members_in-without, members_in-zero, same_sieve}

-- Numbers that pass a test.

-- the n + m numbers from a on are the first n and then m more
range_with_len-split : (a n m : ℕ) → range_with_len a (n + m) ≡ range_with_len a n ++ range_with_len (a + n) m
range_with_len-split a zero m =
    λ i. range_with_len ((let e : a ≡ a + 0 = omega arith in e) i) ((let e : 0 + m ≡ m = omega arith in e) i)
range_with_len-split a (suc n) m =
    let more : suc n + m ≡ suc (n + m) = omega arith in
    let next : a + 1 + n ≡ a + suc n = omega arith in
    ap (range_with_len a) more
    ∙ ap (λ ks. a ∷ ks)
    (range_with_len-split (a + 1) n m ∙ ap (λ b. range_with_len (a + 1) n ++ range_with_len b m) next)

-- those below n + m that pass a test are those below n where none passes from n on
filter-below_more : (p : ℕ → Bool) (n m : ℕ) → ((j : ℕ) → n ≤ j → p j ≡ false)
    → filter p (below (n + m)) ≡ filter p (below n)
filter-below_more p n m none =
    let zero_n : 0 + n ≡ n = omega arith in
    ap (filter p) (range_with_len-split 0 n m ∙ ap (λ b. below n ++ range_with_len b m) zero_n)
    ∙ filter-append p (below n) (range_with_len n m) ∙ ap (λ t. filter p (below n) ++ t) (filter-none p n m none)
    ∙ append-nil (filter p (below n))

-- The word of a test.

-- the word of the numbers from a on, so many, that pass a test, with the first as bit 0
word_from : (ℕ → Bool) → ℕ → ℕ → ℕ
word_from p a zero = 0
word_from p a (suc n) = cond (p a) 1 0 + 2 * word_from p (a + 1) n

-- a word below a bound is below twice the bound with one more bit
one_more-lt : (w v : ℕ) (b : Bool) → w < v → cond b 1 0 + 2 * w < 2 * v
one_more-lt w v true small = omega arith
one_more-lt w v false small = omega arith

-- the word of n numbers has n bits
word_from-lt : (p : ℕ → Bool) (a n : ℕ) → word_from p a n < 2 ^ n
unfolding word_from
word_from-lt p a zero = omega arith
word_from-lt p a (suc n) = omega (arith, one_more-lt (word_from p (a + 1) n) (2 ^ n) (p a) (word_from-lt p (a + 1) n))

-- the lowest bit of a word that was moved up by one
lowest_of : (w : ℕ) (b : Bool) → (cond b 1 0 + 2 * w) % 2 ≡ cond b 1 0
lowest_of w true = omega arith
lowest_of w false = omega arith

-- and the bits above it
others_of : (w : ℕ) (b : Bool) → (cond b 1 0 + 2 * w) / 2 ≡ w
others_of w true = omega arith
others_of w false = omega arith

-- bit i tells whether the i-th number passes
bit_at-word_from : (p : ℕ → Bool) (a n i k : ℕ) → i < n → a + i ≡ k → bit_at (word_from p a n) i ≡ cond (p k) 1 0
unfolding word_from
bit_at-word_from p a zero i k within at = absurd (omega arith)
bit_at-word_from p a (suc n) zero k within at =
    let here : a ≡ k = omega arith in
    bit_at_lowest (cond (p a) 1 0 + 2 * word_from p (a + 1) n) ∙ lowest_of (word_from p (a + 1) n) (p a)
    ∙ ap (λ j. cond (p j) 1 0) here
bit_at-word_from p a (suc n) (suc i) k within at =
    bit_at-suc (cond (p a) 1 0 + 2 * word_from p (a + 1) n) i
    ∙ ap (λ w. bit_at w i) (others_of (word_from p (a + 1) n) (p a))
    ∙ bit_at-word_from p (a + 1) n i k (omega arith) (omega arith)

-- a bit made of a test is that test
is_one : (b : Bool) → (cond b 1 0 == 1) ≡ b
is_one true = refl
is_one false = refl

-- the members of the word of a test are the numbers that pass it
members_in-word_from : (p : ℕ → Bool) (n m : ℕ) → n + m ≡ most_nodes → members_in (word_from p 0 n) ≡ filter p (below n)
unfolding members_in
members_in-word_from p n m all =
    let word = word_from p 0 n in
    let set = λ (k : ℕ). bit_at word k == 1 in
    let above : (j : ℕ) → n ≤ j → set j ≡ false =
    λ j from. ap (λ b. b == 1) (bit_at_above word n j (word_from-lt p 0 n) from) in
    let each : (j : ℕ) → j < n → set j ≡ p j =
    λ j within. ap (λ b. b == 1) (bit_at-word_from p 0 n j j within (omega arith)) ∙ is_one (p j) in
    ap (λ count. filter set (below count)) (sym all) ∙ filter-below_more set n m above ∙ same_sieve set p n each

-- Sets with a word of so many bits.

-- a word of `bits` bits stands for the set
pub record HasWord (bits : ℕ) (s : List ℕ) : Type 0 where
  pub word : ℕ
  pub fits : word < 2 ^ bits
  pub is : members_in word ≡ s

-- no nodes
pub HasWord-nil : (bits : ℕ) → HasWord bits []
HasWord-nil bits = record { word = 0; fits = pow_pos bits; is = members_in-zero }

-- those of so many numbers that pass a test
pub HasWord-filter : (bits : ℕ) (p : ℕ → Bool) (n : ℕ) → n ≤ bits → n ≤ most_nodes → HasWord bits (filter p (below n))
HasWord-filter bits p n few fits = record {
  word = word_from p 0 n;
  fits = let wider : 2 ^ n ≤ 2 ^ bits = pow-le-pow_right (zero-lt-suc 1) few in omega (arith, word_from-lt p 0 n);
  is = members_in-word_from p n (most_nodes - n) (omega arith);
}

-- a set with one more node
pub HasWord-with : (bits : ℕ) (s : List ℕ) (k : ℕ) → HasWord bits s → k < bits → k < most_nodes
    → HasWord bits (with_node s k)
HasWord-with bits s k has small within = record {
  word = _;
  fits =
      subst (λ mask. bit_or has.word mask < 2 ^ bits) (sym (one_shl k 32 (omega arith)))
      (or_lt bits has.word (2 ^ k) has.fits (pow_below k bits small));
  is = members_in-with has.word k s has.is within;
}

-- a set with one node less
pub HasWord-without : (bits : ℕ) (s : List ℕ) (k : ℕ) → HasWord bits s → k < most_nodes
    → HasWord bits (without_node s k)
HasWord-without bits s k has within = record {
  word = _;
  fits = omega (arith, and_le_l has.word (bit_not w32 (1 * 2 ^ k % 2 ^ 32)), has.fits);
  is = members_in-without has.word k s has.is within;
}

-- the set of one node
pub HasWord-only : (bits k : ℕ) → k < bits → k < most_nodes → HasWord bits (k ∷ [])
HasWord-only bits k small within =
    subst (HasWord bits) (with_node-nil k within) (HasWord-with bits [] k (HasWord-nil bits) small within)

-- The word of such a set is told by its members, and tells them.

set_bits_is : (bits : ℕ) (s : List ℕ) (has : HasWord bits s) → bits ≤ most_nodes → set_bits s ≡ has.word
set_bits_is bits s has few =
    let within : has.word < 2 ^ most_nodes =
    (let wider : 2 ^ bits ≤ 2 ^ most_nodes = pow-le-pow_right (zero-lt-suc 1) few in omega (arith, has.fits)) in
    sym (ap set_bits has.is) ∙ bits_of_members has.word within

-- so the bits of its members are that word, and small
pub set_bits-small : (bits : ℕ) (s : List ℕ) → HasWord bits s → bits ≤ most_nodes → set_bits s < 2 ^ bits
set_bits-small bits s has few = subst (λ w. w < 2 ^ bits) (sym (set_bits_is bits s has few)) has.fits

-- and the bits of its members tell the members again
pub members_in-set_bits : (bits : ℕ) (s : List ℕ) → HasWord bits s → bits ≤ most_nodes → members_in (set_bits s) ≡ s
members_in-set_bits bits s has few = ap members_in (set_bits_is bits s has few) ∙ has.is
