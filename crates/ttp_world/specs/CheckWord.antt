-- The check word: the remainder of 24 bits that a frame ends with.
use Rattle.std.specs.Prelude.{ℕ, zero, suc, ◌+◌, ◌*◌, ◌/◌, ◌%◌, Bool, true, false, not, ◌==◌, List, [], ◌∷◌, ◌++◌, fold}
use Rattle.std.specs.Prelude.{flat_map, if◌then◌else◌}

-- Numbers and bytes as bits, the most significant first.

-- the lowest bits of a number, so many, the most significant first
abbrev pub bits_of : ℕ → ℕ → List Bool
bits_of zero v = []
bits_of (suc count) v = bits_of count (v / 2) ++ (v % 2 == 1) ∷ []

-- a number with one bit more at its end
abbrev pub append_bit : ℕ → Bool → ℕ
append_bit v bit = 2 * v + (if bit then 1 else 0)

-- the number of some bits
abbrev pub number_of : List Bool → ℕ
number_of bits = fold append_bit 0 bits

-- the eight bits of a byte
abbrev pub bits_of_byte : ℕ → List Bool
bits_of_byte byte = bits_of 8 byte

-- the bits of bytes, byte after byte
abbrev pub bits_of_bytes : List ℕ → List Bool
bits_of_bytes bytes = flat_map bits_of_byte bytes

-- The remainder.

-- one of two bits alone is set
abbrev pub xor : Bool → Bool → Bool
xor false b = b
xor true b = not b

-- the bits of one list, each combined so with that of another as far as this one goes
abbrev pub xor_bits : List Bool → List Bool → List Bool
xor_bits [] bs = []
xor_bits (a ∷ as_) [] = a ∷ as_
xor_bits (a ∷ as_) (b ∷ bs) = xor a b ∷ xor_bits as_ bs

-- the generator 0x5D6DCB: the coefficients of x^23 down to 1, with x^24 understood
abbrev pub generator : List Bool
generator =
    false ∷ true ∷ false ∷ true ∷ true ∷ true ∷ false ∷ true
    ∷ false ∷ true ∷ true ∷ false ∷ true ∷ true ∷ false ∷ true
    ∷ true ∷ true ∷ false ∷ false ∷ true ∷ false ∷ true ∷ true ∷ []

-- the register moves one place, and the generator is added where the bit that leaves it differs from the input
abbrev pub next_register : List Bool → Bool → List Bool
next_register [] bit = []
next_register (front ∷ rest) bit = if xor front bit then xor_bits (rest ++ false ∷ []) generator else rest ++ false ∷ []

-- the register after some bits
abbrev pub remainder : List Bool → List Bool → List Bool
remainder register [] = register
remainder register (bit ∷ bits) = remainder (next_register register bit) bits

-- the check word of bytes from a start, bit by bit
abbrev pub word_bits : ℕ → List ℕ → List Bool
word_bits start bytes = remainder (bits_of 24 start) (bits_of_bytes bytes)

-- the check word of some bytes, from the schedule's number
abbrev pub check_word : ℕ → List ℕ → ℕ
check_word start bytes = number_of (word_bits start bytes)
