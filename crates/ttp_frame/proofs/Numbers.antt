-- Numbers as rows of bits, the most significant first.
use Rattle.std.proofs.Common.{◌≡◌, ℕ, zero, suc, ◌+◌, ◌*◌, ◌/◌, ◌%◌, ◌^◌, ◌<◌, Bool, true, false, cond, List, [], ◌∷◌}
use Rattle.std.proofs.Common.{◌++◌, length, fold, refl, ap, sym, ◌∙◌, arith, append_assoc, length-append, add-zero}
use Rattle.std.proofs.Common.{add-one, add-suc}
use Rattle.std.specs.Prelude.{◌==◌}
use Rattle.std.specs.Int.RustNames.{bit_xor}
use Rattle.std.proofs.Math.Nat.{mod-eq_of_lt, mod-one, div-one}
use Rattle.std.proofs.lemmas.List.{append-nil}
use Rattle.std.proofs.lemmas.List.Sums.{fold-append}
use Rattle.std.proofs.lemmas.Nat.{pow_pos, shr-shr, shr_split, mod-pow-add, mod_below, xor_shr, xor_mod, xor_lt}
use Rattle.ttp_world.specs.CheckWord.{bits_of, append_bit, number_of, xor, xor_bits}
use Rattle.ttp_frame.proofs.Bits.{xor_bits-append}

-- ---- a number's bits

pub length-bits_of : (count v : ℕ) → length (bits_of count v) ≡ count
length-bits_of zero v = refl
length-bits_of (suc count) v =
    omega (arith, length-append (bits_of count (v / 2)) ((v % 2 == 1) ∷ []), length-bits_of count (v / 2))

-- a number's bits are those of its high part and those of its low part
pub bits_of-add : (j k v : ℕ) → bits_of (j + k) v ≡ bits_of j (v / 2 ^ k) ++ bits_of k v
bits_of-add j zero v = rw (append-nil, add-zero, div-one v)
bits_of-add j (suc k) v =
    let last : List Bool = (v % 2 == 1) ∷ [] in
    let places : 1 + k ≡ suc k = omega arith in
    let high : v / 2 / 2 ^ k ≡ v / 2 ^ suc k = shr-shr v 1 k ∙ ap (λ i. v / 2 ^ i) places in
    rw (add-suc j k)
    (ap (λ xs. xs ++ last) (bits_of-add j k (v / 2) ∙ ap (λ h. bits_of j h ++ bits_of k (v / 2)) high)
    ∙ append_assoc (bits_of j (v / 2 ^ suc k)) (bits_of k (v / 2)) last)

-- one place more of a number's low part
mod-pow-suc : (v k : ℕ) → v % 2 ^ suc k ≡ (v / 2 % 2 ^ k) * 2 + v % 2
mod-pow-suc v k = ap (λ i. v % 2 ^ i) (sym (add-one k)) ∙ mod-pow-add v k 1

-- only the low part counts
pub bits_of-mod : (k v : ℕ) → bits_of k (v % 2 ^ k) ≡ bits_of k v
bits_of-mod zero v = refl
bits_of-mod (suc k) v =
    let half : v % 2 ^ suc k / 2 ≡ v / 2 % 2 ^ k = omega (arith, mod-pow-suc v k) in
    let last : v % 2 ^ suc k % 2 ≡ v % 2 = omega (arith, mod-pow-suc v k) in
    rw (half, last, bits_of-mod k (v / 2))

-- ---- the number of a row of bits

last_bit : (v : ℕ) (b : Bool) → (append_bit v b / 2 ≡ v) × ((append_bit v b % 2 == 1) ≡ b)
last_bit v false = let even : (2 * v + 0) % 2 ≡ 0 = omega arith in (omega arith, ap (λ r. r == 1) even)
last_bit v true = let odd : (2 * v + 1) % 2 ≡ 1 = omega arith in (omega arith, ap (λ r. r == 1) odd)

-- the number in front of a row of bits is what is left without them
front_is : (v : ℕ) (bits : List Bool) → fold append_bit v bits / 2 ^ length bits ≡ v
front_is v [] = div-one v
front_is v (b ∷ bits) =
    ap (λ i. fold append_bit (append_bit v b) bits / 2 ^ i) (sym (add-one (length bits)))
    ∙ sym (shr-shr (fold append_bit (append_bit v b) bits) (length bits) 1)
    ∙ ap (λ h. h / 2) (front_is (append_bit v b) bits)
    ∙ (last_bit v b).0

pub number_of-lt : (bits : List Bool) → number_of bits < 2 ^ length bits
number_of-lt bits =
    let none : 0 * 2 ^ length bits + number_of bits % 2 ^ length bits ≡ number_of bits =
    rw (front_is 0 bits) at (shr_split (number_of bits) (length bits)) in
    omega (arith, none, mod_below (number_of bits) (2 ^ length bits) (pow_pos (length bits)))

bits_behind : (v : ℕ) (bits : List Bool) → bits_of (length bits) (fold append_bit v bits) ≡ bits
bits_behind v [] = refl
bits_behind v (b ∷ bits) =
    let all : ℕ = fold append_bit (append_bit v b) bits in
    let places : suc (length bits) ≡ 1 + length bits = omega arith in
    let first : (all / 2 ^ length bits % 2 == 1) ≡ b =
    ap (λ h. h % 2 == 1) (front_is (append_bit v b) bits) ∙ (last_bit v b).1 in
    ap (λ count. bits_of count all) places ∙ bits_of-add 1 (length bits) all
    ∙ ap (λ h. h ∷ bits_of (length bits) all) first ∙ ap (λ xs. b ∷ xs) (bits_behind (append_bit v b) bits)

-- a row of bits as a number and back
pub bits_of-number_of : (bits : List Bool) → bits_of (length bits) (number_of bits) ≡ bits
bits_of-number_of bits = bits_behind 0 bits

bit_value : (r : ℕ) → r < 2 → cond (r == 1) 1 0 ≡ r
bit_value zero small = refl
bit_value (suc zero) small = refl
bit_value (suc (suc r)) small = absurd (omega arith)

-- a number as a row of bits and back
pub number_of-bits_of : (count v : ℕ) → number_of (bits_of count v) ≡ v % 2 ^ count
number_of-bits_of zero v = sym (mod-one v)
number_of-bits_of (suc count) v =
    fold-append append_bit 0 (bits_of count (v / 2)) ((v % 2 == 1) ∷ [])
    ∙ ap (λ n. append_bit n (v % 2 == 1)) (number_of-bits_of count (v / 2))
    ∙ omega (arith, bit_value (v % 2) (omega arith), mod-pow-suc v count)

-- ---- exclusive or

low_bit : (a b : ℕ) → a < 2 → b < 2 → (bit_xor a b == 1) ≡ xor (a == 1) (b == 1)
low_bit zero zero small small_too = refl
low_bit zero (suc zero) small small_too = refl
low_bit (suc zero) zero small small_too = refl
low_bit (suc zero) (suc zero) small small_too = refl
low_bit (suc (suc a)) b small small_too = absurd (omega arith)
low_bit a (suc (suc b)) small small_too = absurd (omega arith)

-- exclusive or of numbers goes bit by bit
pub bits_of-xor : (count v w : ℕ) → bits_of count (bit_xor v w) ≡ xor_bits (bits_of count v) (bits_of count w)
bits_of-xor zero v w = refl
bits_of-xor (suc count) v w =
    let last : (bit_xor v w % 2 == 1) ≡ xor (v % 2 == 1) (w % 2 == 1) =
    ap (λ r. r == 1) (xor_mod v w 1) ∙ low_bit (v % 2) (w % 2) (omega arith) (omega arith) in
    let same : length (bits_of count (v / 2)) ≡ length (bits_of count (w / 2)) =
    length-bits_of count (v / 2) ∙ sym (length-bits_of count (w / 2)) in
    ap (λ h. bits_of count h ++ (bit_xor v w % 2 == 1) ∷ []) (xor_shr v w 1)
    ∙ ap (λ xs. xs ++ (bit_xor v w % 2 == 1) ∷ []) (bits_of-xor count (v / 2) (w / 2))
    ∙ ap (λ b. xor_bits (bits_of count (v / 2)) (bits_of count (w / 2)) ++ b ∷ []) last
    ∙ sym (xor_bits-append (bits_of count (v / 2)) (bits_of count (w / 2)) ((v % 2 == 1) ∷ []) ((w % 2 == 1) ∷ []) same)

pub number_of-xor : (as_ bs : List Bool) → length as_ ≡ length bs
    → number_of (xor_bits as_ bs) ≡ bit_xor (number_of as_) (number_of bs)
number_of-xor as_ bs same =
    let n : ℕ = length as_ in
    let a : ℕ = number_of as_ in
    let b : ℕ = number_of bs in
    let second : bits_of (length as_) (number_of bs) ≡ bs =
    ap (λ count. bits_of count (number_of bs)) same ∙ bits_of-number_of bs in
    let fits : number_of bs < 2 ^ length as_ = rw same (number_of-lt bs) in
    ap number_of
    (sym (bits_of-xor n a b ∙ ap (λ xs. xor_bits xs (bits_of n b)) (bits_of-number_of as_) ∙ ap (xor_bits as_) second))
    ∙ number_of-bits_of n (bit_xor a b) ∙ mod-eq_of_lt (xor_lt n a b (number_of-lt as_) fits)
