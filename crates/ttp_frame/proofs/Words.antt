-- Check words of bytes in pieces, of sums, and of one byte more.
use Rattle.std.proofs.Common.{◌≡◌, ℕ, zero, suc, ◌+◌, ◌*◌, ◌/◌, ◌%◌, ◌^◌, ◌<◌, false, List, [], ◌∷◌, ◌++◌, length}
use Rattle.std.proofs.Common.{get_or, take, drop, replicate, refl, ap, sym, subst, ◌∙◌, arith, length-append}
use Rattle.std.specs.List.{All}
use Rattle.std.specs.Int.RustNames.{bit_and, bit_xor}
use Rattle.std.proofs.Math.Nat.{mod-eq_of_lt}
use Rattle.std.proofs.lemmas.List.{append-nil, take_more}
use Rattle.std.proofs.lemmas.List.Concat.{flat_map-append}
use Rattle.std.proofs.lemmas.List.Elements.{All-push}
use Rattle.std.proofs.lemmas.Nat.{and_mask, shl-shr, xor_comm}
use Rattle.ttp_world.specs.CheckWord.{bits_of, bits_of_byte, bits_of_bytes, number_of, xor_bits, remainder, word_bits}
use Rattle.ttp_world.specs.CheckWord.{check_word}
use Rattle.ttp_world.specs.Frame.{big_endian}
use Rattle.ttp_frame.specs.Bytes.{xor_bytes}
use Rattle.ttp_frame.proofs.Bits.{xor_bits-append}
use Rattle.ttp_frame.proofs.Numbers.{length-bits_of, bits_of-add, bits_of-mod, number_of-lt, number_of-bits_of}
use Rattle.ttp_frame.proofs.Numbers.{bits_of-number_of, bits_of-xor, number_of-xor}
use Rattle.ttp_frame.proofs.Registers.{length-remainder, remainder-append, remainder-xor, remainder-split}

-- ---- the bits of bytes

pub length-bits_of_bytes : (bytes : List ℕ) → length (bits_of_bytes bytes) ≡ 8 * length bytes
length-bits_of_bytes [] = refl
length-bits_of_bytes (byte ∷ bytes) =
    omega (
      arith,
      length-append (bits_of_byte byte) (bits_of_bytes bytes),
      length-bits_of 8 byte,
      length-bits_of_bytes bytes,
    )

pub bits_of_bytes-append : (one other : List ℕ)
    → bits_of_bytes (one ++ other) ≡ bits_of_bytes one ++ bits_of_bytes other
bits_of_bytes-append one other = flat_map-append bits_of_byte one other

pub bits_of_bytes-xor : (one other : List ℕ) → length one ≡ length other
    → bits_of_bytes (xor_bytes one other) ≡ xor_bits (bits_of_bytes one) (bits_of_bytes other)
bits_of_bytes-xor [] [] same = refl
bits_of_bytes-xor [] (b ∷ bs) same = absurd (omega arith)
bits_of_bytes-xor (a ∷ as_) [] same = absurd (omega arith)
bits_of_bytes-xor (a ∷ as_) (b ∷ bs) same =
    ap (λ xs. bits_of_byte (bit_xor a b) ++ xs) (bits_of_bytes-xor as_ bs (omega arith))
    ∙ ap (λ xs. xs ++ xor_bits (bits_of_bytes as_) (bits_of_bytes bs)) (bits_of-xor 8 a b)
    ∙ sym (xor_bits-append (bits_of_byte a) (bits_of_byte b) (bits_of_bytes as_) (bits_of_bytes bs)
    (length-bits_of 8 a ∙ sym (length-bits_of 8 b)))

-- bytes with the same bits are the same
pub bits_of_bytes-injective : (one other : List ℕ) → length one ≡ length other → All (λ b. b < 2 ^ 8) one
    → All (λ b. b < 2 ^ 8) other → bits_of_bytes one ≡ bits_of_bytes other → one ≡ other
bits_of_bytes-injective [] [] same fit fit_too alike = refl
bits_of_bytes-injective [] (b ∷ bs) same fit fit_too alike = absurd (omega arith)
bits_of_bytes-injective (a ∷ as_) [] same fit fit_too alike = absurd (omega arith)
bits_of_bytes-injective (a ∷ as_) (b ∷ bs) same fit fit_too alike =
    let number = λ (n : ℕ) (small : n < 2 ^ 8). number_of-bits_of 8 n ∙ mod-eq_of_lt small in
    let first : a ≡ b =
    sym (number a (fit 0 0 (omega arith))) ∙ ap (λ bits. number_of (take 8 bits)) alike
    ∙ number b (fit_too 0 0 (omega arith)) in
    let rest : as_ ≡ bs =
    bits_of_bytes-injective as_ bs (omega arith) (λ k d within. fit (suc k) d (omega arith))
    (λ k d within. fit_too (suc k) d (omega arith)) (ap (drop 8) alike) in
    cc

pub length-big_endian : (count v : ℕ) → length (big_endian count v) ≡ count
length-big_endian zero v = refl
length-big_endian (suc count) v =
    omega (arith, length-append (big_endian count (v / 256)) (v % 256 ∷ []), length-big_endian count (v / 256))

pub All-big_endian : (count v : ℕ) → All (λ b. b < 2 ^ 8) (big_endian count v)
All-big_endian zero v = λ k d within. absurd (omega arith)
All-big_endian (suc count) v =
    All-push (λ b. b < 2 ^ 8) (big_endian count (v / 256)) (v % 256) (All-big_endian count (v / 256)) (omega arith)

-- a number's lowest bytes have its lowest bits
pub bits_of_bytes-big_endian : (count v : ℕ) → bits_of_bytes (big_endian count v) ≡ bits_of (8 * count) v
bits_of_bytes-big_endian zero v = refl
bits_of_bytes-big_endian (suc count) v =
    let places : 8 * count + 8 ≡ 8 * suc count = omega arith in
    bits_of_bytes-append (big_endian count (v / 256)) (v % 256 ∷ [])
    ∙ ap (λ xs. xs ++ bits_of_bytes (v % 256 ∷ [])) (bits_of_bytes-big_endian count (v / 256))
    ∙ ap (λ xs. bits_of (8 * count) (v / 256) ++ xs) (append-nil (bits_of 8 (v % 256)) ∙ bits_of-mod 8 v)
    ∙ sym (bits_of-add (8 * count) 8 v)
    ∙ ap (λ n. bits_of n v) places

-- ---- words

length-word_bits : (start : ℕ) (bytes : List ℕ) → length (word_bits start bytes) ≡ 24
length-word_bits start bytes = length-remainder (bits_of 24 start) (bits_of_bytes bytes) ∙ length-bits_of 24 start

-- a check word has the bits of the register
pub bits_of-check_word : (start : ℕ) (bytes : List ℕ) → bits_of 24 (check_word start bytes) ≡ word_bits start bytes
bits_of-check_word start bytes =
    ap (λ n. bits_of n (check_word start bytes)) (sym (length-word_bits start bytes))
    ∙ bits_of-number_of (word_bits start bytes)

pub check_word-lt : (start : ℕ) (bytes : List ℕ) → check_word start bytes < 2 ^ 24
check_word-lt start bytes =
    subst (λ n. check_word start bytes < 2 ^ n) (length-word_bits start bytes) (number_of-lt (word_bits start bytes))

-- the word of no byte is the start
pub check_word-none : (start : ℕ) → start < 2 ^ 24 → check_word start [] ≡ start
check_word-none start fits = number_of-bits_of 24 start ∙ mod-eq_of_lt fits

-- the word of bytes that go on behind others
pub check_word-append : (start : ℕ) (fed more : List ℕ)
    → check_word (check_word start fed) more ≡ check_word start (fed ++ more)
check_word-append start fed more =
    ap (λ r. number_of (remainder r (bits_of_bytes more))) (bits_of-check_word start fed)
    ∙ ap number_of
    (sym (ap (remainder (bits_of 24 start)) (bits_of_bytes-append fed more) ∙ remainder-append (bits_of 24 start)
    (bits_of_bytes fed) (bits_of_bytes more)))

-- the word of one byte more of a list
pub check_word-more : (start word next i : ℕ) (bytes : List ℕ) → i < length bytes
    → word ≡ check_word start (take i bytes) → next ≡ check_word word (get_or bytes i 0 ∷ [])
    → next ≡ check_word start (take (i + 1) bytes)
check_word-more start word next i bytes within so_far is =
    let byte : List ℕ = get_or bytes i 0 ∷ [] in
    is ∙ ap (λ w. check_word w byte) so_far ∙ check_word-append start (take i bytes) byte
    ∙ ap (check_word start) (sym (take_more bytes i 0 within))

-- the word of a sum is the sum of the words
pub check_word-xor : (start begin : ℕ) (one other : List ℕ) → length one ≡ length other
    → check_word (bit_xor start begin) (xor_bytes one other) ≡ bit_xor (check_word start one) (check_word begin other)
check_word-xor start begin one other same =
    ap (λ r. number_of (remainder r (bits_of_bytes (xor_bytes one other)))) (bits_of-xor 24 start begin)
    ∙ ap (λ bits. number_of (remainder (xor_bits (bits_of 24 start) (bits_of 24 begin)) bits))
    (bits_of_bytes-xor one other same)
    ∙ ap number_of
    (remainder-xor (bits_of 24 start) (bits_of 24 begin) (bits_of_bytes one) (bits_of_bytes other)
    (length-bits_of 24 start ∙ sym (length-bits_of 24 begin))
    (omega (arith, length-bits_of_bytes one, length-bits_of_bytes other)))
    ∙ number_of-xor (word_bits start one) (word_bits begin other)
    (length-word_bits start one ∙ sym (length-word_bits begin other))

-- ---- one byte more, by the word of a byte alone

-- a register without its first byte, moved up by a byte
low_bits_moved : (word : ℕ) → bits_of 16 word ++ replicate 8 false ≡ bits_of 24 (word * 2 ^ 8)
low_bits_moved word =
    let none : word * 2 ^ 8 % 2 ^ 8 ≡ 0 = omega arith in
    sym (bits_of-add 16 8 (word * 2 ^ 8)
    ∙ ap (λ h. bits_of 16 h ++ bits_of 8 (word * 2 ^ 8)) (shl-shr word 8)
    ∙ ap (λ xs. bits_of 16 word ++ xs) (sym (bits_of-mod 8 (word * 2 ^ 8)) ∙ ap (bits_of 8) none))

-- the bits of one byte
bits_of_bytes-one : (byte : ℕ) → bits_of_bytes (byte ∷ []) ≡ bits_of 8 byte
bits_of_bytes-one byte = append-nil (bits_of 8 byte)

word_bits-byte : (word byte : ℕ)
    → word_bits word (byte ∷ [])
    ≡ xor_bits (word_bits 0 (bit_xor (word / 2 ^ 16) byte ∷ [])) (bits_of 24 (word * 2 ^ 8))
word_bits-byte word byte =
    let high : ℕ = word / 2 ^ 16 in
    ap (λ r. remainder r (bits_of_bytes (byte ∷ []))) (bits_of-add 8 16 word)
    ∙ ap (remainder (bits_of 8 high ++ bits_of 16 word)) (bits_of_bytes-one byte)
    ∙ remainder-split (bits_of 8 high) (bits_of 16 word) (bits_of 8 byte)
    (length-bits_of 8 high ∙ sym (length-bits_of 8 byte))
    ∙ ap (λ bits. xor_bits (remainder (replicate 24 false) bits) (bits_of 16 word ++ replicate 8 false))
    (sym (bits_of_bytes-one (bit_xor high byte) ∙ bits_of-xor 8 high byte))
    ∙ ap (xor_bits (word_bits 0 (bit_xor high byte ∷ []))) (low_bits_moved word)

-- a byte more moves the register up and adds the word that the register's first byte and the new one have alone
check_word-byte : (word byte : ℕ)
    → check_word word (byte ∷ []) ≡ bit_xor (check_word 0 (bit_xor (word / 2 ^ 16) byte ∷ [])) (word * 2 ^ 8 % 2 ^ 24)
check_word-byte word byte =
    let alone : List ℕ = bit_xor (word / 2 ^ 16) byte ∷ [] in
    ap number_of (word_bits-byte word byte)
    ∙ number_of-xor (word_bits 0 alone) (bits_of 24 (word * 2 ^ 8))
    (length-word_bits 0 alone ∙ sym (length-bits_of 24 (word * 2 ^ 8)))
    ∙ ap (bit_xor (check_word 0 alone)) (number_of-bits_of 24 (word * 2 ^ 8))

-- a byte more, as the code computes its check word
pub check_word-step : (word byte : ℕ)
    → bit_xor (bit_and (word * 256 % 2 ^ 32) 0xff_ffff) (check_word 0 (bit_xor (word / 65536) byte ∷ []))
    ≡ check_word word (byte ∷ [])
check_word-step word byte =
    let low : word * 256 % 2 ^ 32 % 2 ^ 24 ≡ word * 2 ^ 8 % 2 ^ 24 = omega arith in
    xor_comm (bit_and (word * 256 % 2 ^ 32) 0xff_ffff) (check_word 0 (bit_xor (word / 65536) byte ∷ []))
    ∙ ap (bit_xor (check_word 0 (bit_xor (word / 65536) byte ∷ []))) (and_mask (word * 256 % 2 ^ 32) 24 ∙ low)
    ∙ sym (check_word-byte word byte)
