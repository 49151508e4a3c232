-- How much room the texts of a line take, for the callers that have to show that a text fits.
use Rattle.std.proofs.Common.{◌≡◌, ℕ, zero, suc, ◌/◌, ◌<◌, ◌≤◌, ◌^◌, length, refl}
use Rattle.std.proofs.Common.{length-append, ℤ, SFits, w64, arith}
use Rattle.std.proofs.lemmas.Fmt.{length-decimal-le, length_signed_le}
use Rattle.std.specs.Fmt.{decimal, signed_decimal}
use Rattle.ttp_base.specs.Text.{hex}
use Rattle.ttp_base.proofs.Hex.{length-hex_bytes}

-- a number of 64 bits has at most 20 digits, one of 32 bits at most 10, and one of 8 bits at most 3
pub decimal_is_short : (n : ℕ) → n < 2 ^ 64 → length (decimal n) ≤ 20
decimal_is_short n fits = length-decimal-le 20 n (omega arith) (omega arith) fits

pub decimal_of_byte : (n : ℕ) → n < 2 ^ 8 → length (decimal n) ≤ 3
decimal_of_byte n fits = length-decimal-le 3 n (omega arith) (omega arith) (omega arith)

pub decimal_of_slot : (n : ℕ) → n < 2 ^ 32 → length (decimal n) ≤ 10
decimal_of_slot n fits = length-decimal-le 10 n (omega arith) (omega arith) (omega arith)

pub signed_is_short : (z : ℤ) → SFits w64 z → length (signed_decimal z) ≤ 20
signed_is_short z fits = length_signed_le 19 z (omega (arith, fits.sfits)) fits.sfits

-- a number is written in as many digits as are asked for
pub length-hex : (digits v : ℕ) → length (hex digits v) ≡ digits
length-hex zero v = refl
length-hex (suc digits) v = omega (arith, length-append {A = ℕ}, length-hex digits (v / 16))

pub ruleset room = (length-append, decimal_is_short, decimal_of_byte, signed_is_short, length-hex, length-hex_bytes)
