-- Messages of hexadecimal digits, two for each byte.
use Rattle.script_text.proofs.Terms.{◌≡◌, ℕ, ◌+◌, ◌-◌, ◌*◌, ◌<◌, ◌≤◌, Bool, true, false, ◌&&◌, List, [], ◌∷◌, ◌++◌}
use Rattle.script_text.proofs.Terms.{length, get_or, take, drop, map, arith, refl, ap, sym, ◌∙◌, digit_value, list_all}
use Rattle.script_text.proofs.Terms.{nat_tests, common_steps, get_or-take, length-take, get_or-map-range_with_len}
use Rattle.script_text.proofs.Terms.{is_part, is_hex_word, digit_bytes_in}
use Rattle.std.proofs.Common.{zero-add}
use Rattle.std.specs.List.{range_with_len}
use Rattle.std.proofs.lemmas.Bool.{lt-ltb, le-ltb}
use Rattle.std.proofs.lemmas.List.{append_assoc}
use Rattle.script_text.specs.declared.hex.TheConstants.{DIGITS}
use Rattle.script_text.specs.Numbers.{is_hex_digit}
use Rattle.ttp_world.proofs.ListFacts.{next_pair}

-- each entry of the table is computed
DIGITS_are : DIGITS ≡ map digit_value (range_with_len 0 256)
DIGITS_are = refl

pub get_or-DIGITS : (byte : ℕ) → byte < 256 → get_or DIGITS byte 0 ≡ digit_value byte
get_or-DIGITS byte fits =
    ap (λ (digits : List ℕ). get_or digits byte 0) DIGITS_are
    ∙ get_or-map-range_with_len digit_value 0 256 byte byte 0 fits (zero-add byte)

hex_bytes-next : (front word : List ℕ) (i byte : ℕ) → 2 * i + 1 < length word
    → byte ≡ 16 * digit_value (get_or word (2 * i) 0) + digit_value (get_or word (2 * i + 1) 0)
    → (front ++ byte ∷ []) ++ digit_bytes_in (drop (2 * (i + 1)) word) ≡ front ++ digit_bytes_in (drop (2 * i) word)
hex_bytes-next front word i byte within is =
    append_assoc front (byte ∷ []) (digit_bytes_in (drop (2 * (i + 1)) word))
    ∙ ap (λ (l : List ℕ). front ++ l) (ap (λ (b : ℕ). b ∷ digit_bytes_in (drop (2 * (i + 1)) word)) is
    ∙ sym (ap digit_bytes_in (next_pair word i within)))

-- what is left is digits where these two are and the rest is
is_hex-next : (word : List ℕ) (i : ℕ) (high low : Bool) → 2 * i + 1 < length word
    → is_hex_digit (get_or word (2 * i) 0) ≡ high → is_hex_digit (get_or word (2 * i + 1) 0) ≡ low
    → is_hex_word (drop (2 * i) word) ≡ (high && (low && is_hex_word (drop (2 * (i + 1)) word)))
is_hex-next word i high low within high_is low_is =
    ap is_hex_word (next_pair word i within)
    ∙ ap (λ (b : Bool). b && (is_hex_digit (get_or word (2 * i + 1) 0) && is_hex_word
    (drop (2 * (i + 1)) word))) high_is
    ∙ ap (λ (b : Bool). high && (b && is_hex_word (drop (2 * (i + 1)) word))) low_is

-- two digits of a front, in the whole text
record Pair (text : List ℕ) (size i high low : ℕ) : Type 0 where
  within : 2 * i + 1 < length (take (2 * size) text)
  high_is : high ≡ digit_value (get_or (take (2 * size) text) (2 * i) 0)
  low_is : low ≡ digit_value (get_or (take (2 * size) text) (2 * i + 1) 0)

pair_at : (text : List ℕ) (size i high low : ℕ) → 2 * size ≤ length text → i < size
    → high ≡ digit_value (get_or text (2 * i) 0) → low ≡ digit_value (get_or text (2 * i + 1) 0)
    → Pair text size i high low
pair_at text size i high low long near high_is low_is = record {
  within = omega (arith, length-take (2 * size) text);
  high_is = high_is ∙ ap digit_value (sym (get_or-take (2 * size) text (2 * i) 0 (omega arith)));
  low_is = low_is ∙ ap digit_value (sym (get_or-take (2 * size) text (2 * i + 1) 0 (omega arith)));
}

pub right_pair : (text : List ℕ) (size i high low : ℕ) → 2 * size ≤ length text → i < size
    → high ≡ digit_value (get_or text (2 * i) 0) → low ≡ digit_value (get_or text (2 * i + 1) 0)
    → high < 16 → low < 16
    → is_hex_word (drop (2 * (i + 1)) (take (2 * size) text)) ≡ is_hex_word (drop (2 * i) (take (2 * size) text))
right_pair text size i high low long near high_is low_is high_small low_small =
    let pair = pair_at text size i high low long near high_is low_is in
    sym (is_hex-next (take (2 * size) text) i true true pair.within
    (lt-ltb _ 16 (omega (arith, pair.high_is))) (lt-ltb _ 16 (omega (arith, pair.low_is))))

pub pair_byte : (text front : List ℕ) (size i high low : ℕ) → 2 * size ≤ length text → i < size
    → high ≡ digit_value (get_or text (2 * i) 0) → low ≡ digit_value (get_or text (2 * i + 1) 0)
    → (front ++ (16 * high + low) ∷ []) ++ digit_bytes_in (drop (2 * (i + 1)) (take (2 * size) text))
    ≡ front ++ digit_bytes_in (drop (2 * i) (take (2 * size) text))
pair_byte text front size i high low long near high_is low_is =
    let pair = pair_at text size i high low long near high_is low_is in
    hex_bytes-next front (take (2 * size) text) i (16 * high + low) pair.within
    (omega (arith, pair.high_is, pair.low_is))

-- where one of the two is no digit, the front has other bytes
pub wrong_high : (text : List ℕ) (size i high low : ℕ) → 2 * size ≤ length text → i < size
    → high ≡ digit_value (get_or text (2 * i) 0) → low ≡ digit_value (get_or text (2 * i + 1) 0)
    → 16 ≤ high → is_hex_word (drop (2 * i) (take (2 * size) text)) ≡ false
wrong_high text size i high low long near high_is low_is large =
    let pair = pair_at text size i high low long near high_is low_is in
    is_hex-next (take (2 * size) text) i false _ pair.within (le-ltb _ 16 (omega (arith, pair.high_is))) refl

pub wrong_low : (text : List ℕ) (size i high low : ℕ) → 2 * size ≤ length text → i < size
    → high ≡ digit_value (get_or text (2 * i) 0) → low ≡ digit_value (get_or text (2 * i + 1) 0)
    → high < 16 → 16 ≤ low → is_hex_word (drop (2 * i) (take (2 * size) text)) ≡ false
wrong_low text size i high low long near high_is low_is small large =
    let pair = pair_at text size i high low long near high_is low_is in
    is_hex-next (take (2 * size) text) i true false pair.within
    (lt-ltb _ 16 (omega (arith, pair.high_is))) (le-ltb _ 16 (omega (arith, pair.low_is)))

-- How many bytes there are.

pub length-hex_bytes_in : (n : ℕ) (word : List ℕ) → length word ≡ 2 * n → length (digit_bytes_in word) ≡ n
length-hex_bytes_in n [] size = omega arith
length-hex_bytes_in n (high ∷ []) size = absurd (omega arith)
length-hex_bytes_in n (high ∷ low ∷ word) size =
    omega (arith, length-hex_bytes_in (n - 1) word (omega arith))
