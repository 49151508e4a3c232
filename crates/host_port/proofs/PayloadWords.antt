-- A word of a payload, byte by byte.
use Rattle.host_port.proofs.Names.{◌≡◌, ℕ, ◌+◌, ◌*◌, ◌<◌, ◌≤◌, ◌^◌, ◌∷◌, [], map, ap, ◌∙◌, arith, zero-add, lit<}
use Rattle.host_port.proofs.Names.{map-range_with_len_more, below, append_byte, number_in}
use Rattle.std.proofs.lemmas.List.Sums.{fold-append}
use Rattle.std.proofs.lemmas.Grind.{pow_more}
use Rattle.std.proofs.Math.Nat.{pow-le-pow_right}

-- the number of one byte more
pub number_in-more : (byte : ℕ → ℕ) (j : ℕ)
    → number_in (map byte (below (j + 1))) ≡ 256 * number_in (map byte (below j)) + byte j
number_in-more byte j = ap number_in (map-range_with_len_more byte 0 j j (zero-add j))
    ∙ fold-append append_byte 0 (map byte (below j)) (byte j ∷ [])

-- it stays below a power that rises with the bytes
pub number-below : (number byte j : ℕ) → number < 256 ^ j → byte < 256 → 256 * number + byte < 256 ^ (j + 1)
number-below number byte j low one = omega (arith, pow_more 256 j)

-- a number of fewer than eight bytes leaves room for one more in a word
pub number-fits : (number j : ℕ) → number < 256 ^ j → j < 8 → number < 2 ^ 56
number-fits number j low few =
    let most : 256 ^ j ≤ 256 ^ 7 = pow-le-pow_right {n = 256} (lit< tt) {i = j} {j = 7} (omega arith) in omega arith
