-- Numbers that are written, read again.
use Rattle.std.proofs.Common.{◌≡◌, ℕ, suc, ◌+◌, ◌*◌, ◌/◌, ◌%◌, ◌<◌, ◌≤◌, ◌^◌, ◌==◌, nat_le, ℤ, pos, negsuc}
use Rattle.std.proofs.Common.{true, false, List, [], ◌∷◌, length, refl, ap, arith, decimal, codes}
use Rattle.std.specs.Prelude.{nat_abs, slice_index}
use Rattle.std.specs.Char.{digit_value, is_ascii_digit}
use Rattle.std.specs.Fmt.{signed_decimal}
use Rattle.std.specs.List.{list_all, AllByRecursion}
use Rattle.std.specs.Str.Parse.{AllDigits}
use Rattle.std.proofs.lemmas.Bool.{lt-ltb}
use Rattle.std.proofs.lemmas.Bool.Decides.{nat_tests}
use Rattle.std.proofs.lemmas.Fmt.{decimal_is_IsNumeral, decimal_nonempty, length-decimal-le}
use Rattle.std.proofs.lemmas.Str.Parse.{digit_from_value}
use Rattle.ttp_base.specs.Text.{hex_digit, hex_bytes}
use Rattle.script_text.specs.Numbers.{is_number, decimal_value, is_negative, is_value, value_in, is_hex_word}
use Rattle.script_text.specs.Numbers.{digit_bytes_in, is_text, most_digits}
use Rattle.ttp_base.proofs.Numerals.{has-decimal, has-signed, has-hex_bytes}
use Rattle.script_laws.proofs.Words.{IsWord, word_of}

digit-ascii : (c : ℕ) → digit_value c < 10 → is_ascii_digit c ≡ true
digit-ascii c small = let at = digit_from_value c small in grind (arith, nat_tests, at)

digits-ascii : (ds : List ℕ) → AllDigits 10 ds → list_all is_ascii_digit ds ≡ true
digits-ascii [] all = refl
digits-ascii (c ∷ cs) all = rw (digit-ascii c all.0, digits-ascii cs all.1) refl

no_sign : (ds : List ℕ) → AllDigits 10 ds → (slice_index ds 0 == 45) ≡ false
no_sign [] all = refl
no_sign (c ∷ cs) all = let at = digit_from_value c all.0 in grind (arith, nat_tests, at)

-- a word that is this number
pub record IsNumber (n : ℕ) (word : List ℕ) : Type 0 where
  pub is : is_number word ≡ true
  pub value : decimal_value word ≡ n
  pub plain : is_negative word ≡ false
  pub spells : IsWord word

pub number-word : (n : ℕ) → n < 10 ^ 9 → IsNumber n (decimal n)
number-word n small =
    let fits : n < 2 ^ 64 = omega (arith, small) in
    let numeral = decimal_is_IsNumeral n fits in
    let some = decimal_nonempty n fits in
    let few = length-decimal-le 9 n (omega arith) small fits in
    let least : nat_le 1 (length (decimal n)) ≡ true = grind (arith, nat_tests, some) in
    let most : nat_le (length (decimal n)) most_digits ≡ true = grind (arith, nat_tests, few) in
    record {
      is = rw (digits-ascii (decimal n) numeral.0.1, least, most) refl;
      value = numeral.1;
      plain = no_sign (decimal n) numeral.0.1;
      spells = word_of (decimal n) some (λ b low. has-decimal b n low);
    }

-- and one that is this number, which may have a sign
pub record IsSigned (z : ℤ) (word : List ℕ) : Type 0 where
  pub is : is_value word ≡ true
  pub value : value_in word ≡ z
  pub spells : IsWord word

pub signed-word : (z : ℤ) → nat_abs z < 10 ^ 9 → IsSigned z (signed_decimal z)
signed-word (pos n) small =
    let number = number-word n small in
    record { is = rw number.plain number.is; value = rw number.plain (ap pos number.value); spells = number.spells }
signed-word (negsuc n) small =
    let number = number-word (suc n) small in
    record {
      is = number.is;
      value = rw number.value refl;
      spells = word_of (signed_decimal (negsuc n)) (omega arith) (λ b low. has-signed b (negsuc n) low);
    }

-- Bytes in two digits each.

hex-value : (d : ℕ) → d < 16 → digit_value (hex_digit d) ≡ d
hex-value d small = grind (arith, nat_tests, small)

-- bytes that are written, read again
pub record IsHex (bytes word : List ℕ) : Type 0 where
  pub value : digit_bytes_in word ≡ bytes
  pub is : is_hex_word word ≡ true
  pub size : length word ≡ 2 * length bytes

pub hex-word : (bytes : List ℕ) → AllByRecursion (λ b. b < 256) bytes → IsHex bytes (hex_bytes bytes)
hex-word [] small = record { value = refl; is = refl; size = refl }
hex-word (b ∷ bytes) small =
    let rest = hex-word bytes small.1 in
    let high = hex-value (b / 16) (omega (arith, small.0)) in
    let low = hex-value (b % 16) (omega arith) in
    let byte : 16 * digit_value (hex_digit (b / 16)) + digit_value (hex_digit (b % 16)) ≡ b =
    omega (arith, high, low) in
    record {
      value = rw (byte, rest.value) refl;
      is = rw (high, low, lt-ltb (b / 16) 16 (omega (arith, small.0)), lt-ltb (b % 16) 16 (omega arith), rest.is) refl;
      size = omega (arith, rest.size);
    }

pub hex-is_word : (bytes : List ℕ) → AllByRecursion (λ b. b < 256) bytes → 1 ≤ length bytes → IsWord (hex_bytes bytes)
hex-is_word bytes small some =
    word_of (hex_bytes bytes) (omega (arith, (hex-word bytes small).size)) (λ b low. has-hex_bytes b bytes low)

-- no number is spelled like this word

not_status : (ds : List ℕ) → AllDigits 10 ds → is_text (codes "status") ds ≡ false
not_status [] all = refl
not_status (c ∷ cs) all =
    let at = digit_from_value c all.0 in
    let differs : (c == 115) ≡ false = grind (arith, nat_tests, at) in
    rw differs refl

pub number-not_status : (n : ℕ) → n < 2 ^ 64 → is_text (codes "status") (decimal n) ≡ false
number-not_status n fits = not_status (decimal n) (decimal_is_IsNumeral n fits).0.1
