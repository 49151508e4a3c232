-- Flipped bits are an exclusive or with a mask, which the bits make, whatever the bytes are.
use Rattle.std.proofs.Common.{◌≡◌, ℕ, zero, suc, ◌+◌, ◌-◌, ◌*◌, ◌^◌, ◌<◌, Bool, true, false, cond}
use Rattle.std.proofs.Common.{List, [], ◌∷◌, length, replicate, refl, ap, sym, ◌∙◌, arith}
use Rattle.std.specs.Prelude.{◌==◌, nat_lt}
use Rattle.std.specs.Int.{bit_at}
use Rattle.std.specs.Int.Bits.{bit_and, xor_add_and, xor_assoc, xor_zero_r}
use Rattle.std.specs.Int.RustNames.{bit_xor}
use Rattle.std.proofs.lemmas.Bool.{cond_both, eqb-true, eqb-false}
use Rattle.std.proofs.lemmas.List.{length-replicate}
use Rattle.std.proofs.lemmas.Nat.{xor_of_8}
use Rattle.std.proofs.lemmas.Nat.Bits.{and_pow, bit_at-lt}
use Rattle.std.proofs.Math.Pow.{pow-lt}
use Rattle.ttp_frame.specs.Bytes.{xor_bytes}
use Rattle.frame_fates.proofs.FromBelow.{AreBytes}
use Rattle.ttp_world.specs.Medium.{flip_in_byte, flip_bit, flip_bits}

-- A bit.

flip_in_byte-xor : (place byte : ℕ) → flip_in_byte place byte ≡ bit_xor byte (2 ^ place)
flip_in_byte-xor place byte = go (bit_at byte place == 1) refl
  where
    both : bit_xor byte (2 ^ place) + bit_and byte (2 ^ place) * 2 ≡ byte + 2 ^ place
    both = xor_add_and byte (2 ^ place)

    go : (set : Bool) → (bit_at byte place == 1) ≡ set
        → cond set (byte - 2 ^ place) (byte + 2 ^ place) ≡ bit_xor byte (2 ^ place)
    go true is =
        let one : bit_and byte (2 ^ place) ≡ 1 * 2 ^ place =
        and_pow byte place ∙ ap (λ b. b * 2 ^ place) (eqb-true (bit_at byte place) 1 is) in
        omega (arith, one, both)
    go false is =
        let none : bit_at byte place ≡ 0 =
        omega (arith, bit_at-lt byte place, eqb-false (bit_at byte place) 1 is) in
        let clear : bit_and byte (2 ^ place) ≡ 0 * 2 ^ place =
        and_pow byte place ∙ ap (λ b. b * 2 ^ place) none in
        omega (arith, clear, both)

-- Bits of bytes.

flip_in_xor : (a m place : ℕ) → flip_in_byte place (bit_xor a m) ≡ bit_xor a (flip_in_byte place m)
flip_in_xor a m place =
    flip_in_byte-xor place (bit_xor a m) ∙ xor_assoc a m (2 ^ place)
    ∙ ap (bit_xor a) (sym (flip_in_byte-xor place m))

-- in the first byte or behind it
flip_here : (a m : ℕ) (bytes mask : List ℕ) (bit : ℕ) (near : Bool)
    → flip_bit (xor_bytes bytes mask) (bit - 8) ≡ xor_bytes bytes (flip_bit mask (bit - 8))
    → cond near (flip_in_byte (7 - bit) (bit_xor a m) ∷ xor_bytes bytes mask)
    (bit_xor a m ∷ flip_bit (xor_bytes bytes mask) (bit - 8))
    ≡ xor_bytes (a ∷ bytes) (cond near (flip_in_byte (7 - bit) m ∷ mask) (m ∷ flip_bit mask (bit - 8)))
flip_here a m bytes mask bit true behind = ap (λ x. x ∷ xor_bytes bytes mask) (flip_in_xor a m (7 - bit))
flip_here a m bytes mask bit false behind = ap (λ xs. bit_xor a m ∷ xs) behind

flip_bit-xor : (bytes mask : List ℕ) (bit : ℕ) → length bytes ≡ length mask
    → flip_bit (xor_bytes bytes mask) bit ≡ xor_bytes bytes (flip_bit mask bit)
flip_bit-xor [] [] bit same = refl
flip_bit-xor (a ∷ bytes) (m ∷ mask) bit same =
    flip_here a m bytes mask bit (nat_lt bit 8) (flip_bit-xor bytes mask (bit - 8) (omega (arith, same)))
flip_bit-xor bytes mask bit same = absurd (omega (arith, same))

length-flip_bit : (bytes : List ℕ) (bit : ℕ) → length (flip_bit bytes bit) ≡ length bytes
length-flip_bit [] bit = refl
length-flip_bit (byte ∷ bytes) bit =
    cond_both (nat_lt bit 8) (flip_in_byte (7 - bit) byte ∷ bytes) (byte ∷ flip_bit bytes (bit - 8))
    (λ (bs : List ℕ). length bs ≡ suc (length bytes)) (λ near. refl)
    (λ behind. ap suc (length-flip_bit bytes (bit - 8)))

flip_bits-xor : (bits bytes mask : List ℕ) → length bytes ≡ length mask
    → flip_bits (xor_bytes bytes mask) bits ≡ xor_bytes bytes (flip_bits mask bits)
flip_bits-xor [] bytes mask same = refl
flip_bits-xor (bit ∷ bits) bytes mask same =
    ap (λ (there : List ℕ). flip_bits there bits) (flip_bit-xor bytes mask bit same)
    ∙ flip_bits-xor bits bytes (flip_bit mask bit) (same ∙ sym (length-flip_bit mask bit))

-- The mask.

abbrev pub mask_of : ℕ → List ℕ → List ℕ
mask_of size bits = flip_bits (replicate size 0) bits

xor_bytes-zeros : (bytes : List ℕ) → xor_bytes bytes (replicate (length bytes) 0) ≡ bytes
xor_bytes-zeros [] = refl
xor_bytes-zeros (a ∷ bytes) = λ i. xor_zero_r a i ∷ xor_bytes-zeros bytes i

length-zeros : (size : ℕ) → length {A = ℕ} (replicate size 0) ≡ size
length-zeros size = length-replicate size 0

pub flip_bits-mask : (bytes bits : List ℕ) → flip_bits bytes bits ≡ xor_bytes bytes (mask_of (length bytes) bits)
flip_bits-mask bytes bits =
    ap (λ (there : List ℕ). flip_bits there bits) (sym (xor_bytes-zeros bytes))
    ∙ flip_bits-xor bits bytes (replicate (length bytes) 0) (sym (length-zeros (length bytes)))

length-flip_bits : (bits bytes : List ℕ) → length (flip_bits bytes bits) ≡ length bytes
length-flip_bits [] bytes = refl
length-flip_bits (bit ∷ bits) bytes = length-flip_bits bits (flip_bit bytes bit) ∙ length-flip_bit bytes bit

pub length-mask_of : (size : ℕ) (bits : List ℕ) → length (mask_of size bits) ≡ size
length-mask_of size bits = length-flip_bits bits (replicate size 0) ∙ length-zeros size

flip_in_byte-small : (place byte : ℕ) → place < 8 → byte < 2 ^ 8 → flip_in_byte place byte < 2 ^ 8
flip_in_byte-small place byte there small =
    rw (flip_in_byte-xor place byte) (xor_of_8 byte (2 ^ place) small (pow-lt there))

AreBytes-cons : (byte : ℕ) (bytes : List ℕ) → byte < 2 ^ 8 → AreBytes bytes → AreBytes (byte ∷ bytes)
AreBytes-cons byte bytes first rest zero = first
AreBytes-cons byte bytes first rest (suc i) = rest i

flip_bit-AreBytes : (bytes : List ℕ) (bit : ℕ) → AreBytes bytes → AreBytes (flip_bit bytes bit)
flip_bit-AreBytes [] bit small = small
flip_bit-AreBytes (byte ∷ bytes) bit small =
    cond_both (nat_lt bit 8) (flip_in_byte (7 - bit) byte ∷ bytes) (byte ∷ flip_bit bytes (bit - 8)) AreBytes
    (λ near. AreBytes-cons (flip_in_byte (7 - bit) byte) bytes
    (flip_in_byte-small (7 - bit) byte (omega arith) (small 0)) (λ i. small (suc i)))
    (λ behind. AreBytes-cons byte (flip_bit bytes (bit - 8)) (small 0)
    (flip_bit-AreBytes bytes (bit - 8) (λ i. small (suc i))))

flip_bits-AreBytes : (bits bytes : List ℕ) → AreBytes bytes → AreBytes (flip_bits bytes bits)
flip_bits-AreBytes [] bytes small = small
flip_bits-AreBytes (bit ∷ bits) bytes small =
    flip_bits-AreBytes bits (flip_bit bytes bit) (flip_bit-AreBytes bytes bit small)

zeros-AreBytes : (size : ℕ) → AreBytes (replicate size 0)
zeros-AreBytes zero i = omega arith
zeros-AreBytes (suc size) zero = omega arith
zeros-AreBytes (suc size) (suc i) = zeros-AreBytes size i

pub mask_of-AreBytes : (size : ℕ) (bits : List ℕ) → AreBytes (mask_of size bits)
mask_of-AreBytes size bits = flip_bits-AreBytes bits (replicate size 0) (zeros-AreBytes size)
