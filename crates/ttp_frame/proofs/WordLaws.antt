-- The laws of check words.
use Rattle.std.proofs.Common.{◌≡◌, ◌≢◌, ℕ, ◌<◌, ◌^◌, List, ◌++◌, length, ap, sym, ◌∙◌, arith}
use Rattle.std.specs.List.{All}
use Rattle.std.specs.Int.Bits.{xor_self}
use Rattle.std.specs.Int.RustNames.{bit_xor}
use Rattle.ttp_world.specs.CheckWord.{bits_of, bits_of_bytes, number_of, remainder, check_word}
use Rattle.ttp_world.specs.Frame.{big_endian, word_bytes}
use Rattle.ttp_frame.specs.Bytes.{xor_bytes, DifferWithin}
use Rattle.ttp_frame.proofs.Numbers.{length-bits_of}
use Rattle.ttp_frame.proofs.Registers.{remainder-self, remainder-tells, remainder-burst}
use Rattle.ttp_frame.proofs.Words.{length-bits_of_bytes, bits_of_bytes-injective, length-big_endian, All-big_endian}
use Rattle.ttp_frame.proofs.Words.{bits_of_bytes-big_endian, bits_of-check_word, check_word-append, check_word-xor}

-- ---- sums

-- The words of two lists of equal length, combined, are the word of the combined lists from start 0.
pub words_combine : (start : ℕ) (one other : List ℕ) → length one ≡ length other
    → bit_xor (check_word start one) (check_word start other) ≡ check_word 0 (xor_bytes one other)
words_combine start one other same =
    sym (check_word-xor start start one other same) ∙ ap (λ s. check_word s (xor_bytes one other)) (xor_self start)

-- ---- a list's own word

check_word-own : (word : ℕ) → check_word word (big_endian 3 word) ≡ 0
check_word-own word =
    ap (λ bits. number_of (remainder (bits_of 24 word) bits)) (bits_of_bytes-big_endian 3 word)
    ∙ ap number_of (remainder-self (bits_of 24 word) (length-bits_of 24 word))

-- A list that ends with its own word has the word 0, from the same start.
pub own_word_gives_zero : (start : ℕ) (bytes : List ℕ) → check_word start (bytes ++ word_bytes start bytes) ≡ 0
own_word_gives_zero start bytes =
    sym (check_word-append start bytes (word_bytes start bytes)) ∙ check_word-own (check_word start bytes)

-- Bytes behind a list, in a word's place, that give the word 0 are the list's own word.
pub own_word_by_zero : (start : ℕ) (bytes tail : List ℕ) → length tail ≡ 3 → All (λ b. b < 2 ^ 8) tail
    → check_word start (bytes ++ tail) ≡ 0 → tail ≡ word_bytes start bytes
own_word_by_zero start bytes tail size fit zeros =
    bits_of_bytes-injective tail own (size ∙ sym (length-big_endian 3 word)) fit (All-big_endian 3 word) same_bits
  where
    word : ℕ
    word = check_word start bytes

    own : List ℕ
    own = word_bytes start bytes

    same_word : check_word word tail ≡ check_word word own
    same_word = check_word-append start bytes tail ∙ zeros ∙ sym (check_word-own word)

    same_bits : bits_of_bytes tail ≡ bits_of_bytes own
    same_bits =
        remainder-tells (bits_of 24 word) (bits_of_bytes tail) (bits_of_bytes own) (length-bits_of 24 word)
        (omega (arith, length-bits_of_bytes tail, length-bits_of_bytes own, size, length-big_endian 3 word))
        (omega (arith, length-bits_of_bytes tail, size))
        (sym (bits_of-check_word word tail) ∙ ap (bits_of 24) same_word ∙ bits_of-check_word word own)

-- ---- short runs of bits

-- Lists of equal length that differ, and only within 24 consecutive bits, have different words from any start.
pub bursts_change_the_word : (start : ℕ) (one other : List ℕ) → DifferWithin 24 one other
    → check_word start one ≢ check_word start other
bursts_change_the_word start one other apart alike =
    apart.differ
    (remainder-burst (bits_of 24 start) (bits_of_bytes one) (bits_of_bytes other) apart.from 24
    (length-bits_of 24 start) (omega arith)
    (omega (arith, apart.same_length, length-bits_of_bytes one, length-bits_of_bytes other)) apart.before apart.after
    (sym (bits_of-check_word start one) ∙ ap (bits_of 24) alike ∙ bits_of-check_word start other))
