-- Bytes beside other bytes: their sum, and how far they differ.
use Rattle.std.specs.Prelude.{◌≡◌, ◌≢◌, ℕ, ◌+◌, List, [], ◌∷◌, length, take, drop, bit_xor}
use Rattle.ttp_world.specs.CheckWord.{bits_of_bytes}

-- bytes combined by exclusive or; where the second list is shorter, the rest of the first stays
abbrev pub xor_bytes : List ℕ → List ℕ → List ℕ
xor_bytes [] bs = []
xor_bytes (a ∷ as_) [] = a ∷ as_
xor_bytes (a ∷ as_) (b ∷ bs) = bit_xor a b ∷ xor_bytes as_ bs

-- lists of equal length whose bits differ, and differ only in so many consecutive bits
pub record DifferWithin (width : ℕ) (one other : List ℕ) : Type 0 where
  pub same_length : length one ≡ length other
  pub differ : bits_of_bytes one ≢ bits_of_bytes other
  pub from : ℕ
  pub before : take from (bits_of_bytes one) ≡ take from (bits_of_bytes other)
  pub after : drop (from + width) (bits_of_bytes one) ≡ drop (from + width) (bits_of_bytes other)
