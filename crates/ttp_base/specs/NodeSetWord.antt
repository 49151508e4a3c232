-- The word of a set: the members that a word has tell the word again.
use Rattle.std.specs.Prelude.{ℕ, zero, suc, ◌≡◌, ◌==◌, ◌<◌, ◌+◌, ◌*◌, ◌/◌, ◌%◌, ◌^◌, List, ◌∷◌, filter, cond}
use Rattle.std.specs.Int.{bit_at}
use Rattle.std.specs.List.{range_with_len}
use Rattle.std.proofs.Common.{ap, sym, ◌∙◌, add-one}
use Rattle.std.proofs.Math.Nat.{add_comm, add-mul, div-one, le_of_suc-le-suc, mod-eq_of_lt, mod-lt, mod-one, mul-one}
use Rattle.std.proofs.Math.Nat.{mul_assoc, mul_comm, not-suc-le-zero, one-mul, zero-add, zero-lt-suc, zero-mul}
use Rattle.std.proofs.lemmas.List.Sums.{sum_by-cons}
use Rattle.std.proofs.lemmas.Nat.{mod-pow-add, pow-add, shr-shr}
use Rattle.ttp_base.specs.NodeSet.{most_nodes, members_in, set_bits}
use Rattle.ttp_base.specs.declared.node_set.NodeSet.TheInside.{Inside}

-- a node is put before others where its bit is set
set_bits-cond : (bit a : ℕ) (xs : List ℕ) → bit < 2 → set_bits (cond (bit == 1) (a ∷ xs) xs) ≡ bit * 2 ^ a + set_bits xs
set_bits-cond zero a xs small = sym (ap (λ b. b + set_bits xs) (zero-mul (2 ^ a)) ∙ zero-add (set_bits xs))
set_bits-cond (suc zero) a xs small = sum_by-cons (λ k. 2 ^ k) a xs ∙ ap (λ b. b + set_bits xs) (sym (one-mul (2 ^ a)))
set_bits-cond (suc (suc bit)) a xs small = absurd (not-suc-le-zero (le_of_suc-le-suc (le_of_suc-le-suc small)))

-- the n bits of a word from bit a on
bits_from : (word a n : ℕ) → set_bits (filter (λ k. bit_at word k == 1) (range_with_len a n))
    ≡ word / 2 ^ a % 2 ^ n * 2 ^ a
bits_from word a zero = sym (ap (λ r. r * 2 ^ a) (mod-one (word / 2 ^ a)) ∙ zero-mul (2 ^ a))
bits_from word a (suc n) =
    let high = word / 2 ^ a in
    let rest = high / 2 % 2 ^ n in
    set_bits-cond (high % 2) a (filter (λ k. bit_at word k == 1) (range_with_len (a + 1) n))
    (mod-lt high (zero-lt-suc 1))
    ∙ ap (λ r. high % 2 * 2 ^ a + r)
    (bits_from word (a + 1) n ∙ (λ i. sym (shr-shr word a 1) i % 2 ^ n * (pow-add 2 a 1 ∙ mul_comm (2 ^ a) 2) i)
    ∙ sym (mul_assoc rest 2 (2 ^ a)))
    ∙ sym (add-mul (high % 2) (rest * 2) (2 ^ a))
    ∙ ap (λ r. r * 2 ^ a)
    (add_comm (high % 2) (rest * 2) ∙ sym (mod-pow-add high n 1) ∙ ap (λ j. high % 2 ^ j) (add-one n))

-- the members of a word have it as their word
pub bits_of_members : (word : ℕ) → word < 2 ^ most_nodes → set_bits (members_in word) ≡ word
unfolding members_in
bits_of_members word fits =
    bits_from word 0 most_nodes ∙ mul-one _ ∙ ap (λ w. w % 2 ^ most_nodes) (div-one word) ∙ mod-eq_of_lt fits

-- so the members of a set give its fields back
pub word_of_members : (s : Inside) → s.bits < 2 ^ most_nodes → record { bits = set_bits (members_in s.bits) } ≡ s
word_of_members s fits = λ i. record { bits = bits_of_members s.bits fits i }
