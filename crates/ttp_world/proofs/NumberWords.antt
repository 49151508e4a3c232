-- Numbers as words: digits alone, and for each number below 2^64 a word of its own.
use Rattle.ttp_world.proofs.Words.{◌≡◌, ◌≢◌, ℕ, zero, suc, ◌+◌, ◌/◌, ◌%◌, ◌<◌, ◌≤◌, ◌^◌, Bool, true, false, cond, ◌&&◌}
use Rattle.ttp_world.proofs.Words.{not, List, [], ◌∷◌, ◌++◌, length, Some, None, refl, ap, ◌∙◌, arith, length-append}
use Rattle.ttp_world.proofs.Words.{bytes_eq, decimal, ◌==◌, nat_lt, list_all, both_ways, nat_tests, bytes_eq-Decides}
use Rattle.ttp_world.proofs.Words.{number_named}
use Rattle.std.proofs.Common.{fold}
use Rattle.std.specs.Fmt.{digit_glyph, digits_onto, digits}
use Rattle.std.proofs.lemmas.Bool.{false_from_ne_true}
use Rattle.std.proofs.lemmas.Fmt.{decimal_by_steps, decimal_injective}
use Rattle.std.proofs.lemmas.List.Sums.{fold-append}
use Rattle.ttp_world.specs.TraceNumbers.{is_digit, append_digit}

-- Digits alone.

glyph-digit : (small : Bool) (d : ℕ) → d < 10 → small ≡ true → is_digit (cond small (48 + d) (87 + d)) ≡ true
glyph-digit small d less below = rw below (grind (arith, nat_tests))

digits_onto-digits : (k n : ℕ) (text : List ℕ) → list_all is_digit text ≡ true
    → list_all is_digit (digits_onto k 10 false n text) ≡ true
digits_onto-digits zero n text before = before
digits_onto-digits (suc k) n text before =
    let glyph = digit_glyph false (n % 10) in
    let one : is_digit glyph ≡ true =
    glyph-digit (nat_lt (n % 10) 10) (n % 10) (omega arith) (grind (arith, nat_tests)) in
    let here : list_all is_digit (glyph ∷ text) ≡ true =
    ap (λ (b : Bool). b && list_all is_digit text) one ∙ before in
    let go : (last : Bool)
    → list_all is_digit (cond last (glyph ∷ text) (digits_onto k 10 false (n / 10) (glyph ∷ text))) ≡ true =
    elim [ true ↦ here | false ↦ digits_onto-digits k (n / 10) (glyph ∷ text) here ] in
    go (n / 10 == 0)

decimal-digits : (n : ℕ) → list_all is_digit (decimal n) ≡ true
unfolding digits
decimal-digits n = digits_onto-digits 64 n [] refl

-- The number is read again.

pub record IsRead (n : ℕ) (word : List ℕ) : Type 0 where
  pub some : 0 < length word
  pub value : fold append_digit 0 word ≡ n

one_digit : (n : ℕ) → n < 10 → IsRead n ((48 + n) ∷ [])
one_digit n small = record { some = omega arith; value = omega arith }

one_more : (n : ℕ) (word : List ℕ) → 10 ≤ n → IsRead (n / 10) word → IsRead n (word ++ (48 + n % 10) ∷ [])
one_more n word large number = record {
  some = omega (arith, length-append word ((48 + n % 10) ∷ []));
  value = omega (arith, fold-append append_digit 0 word ((48 + n % 10) ∷ []), number.value);
}

named : (word : List ℕ) (n : ℕ) (all none : Bool) → all ≡ true → none ≡ false → fold append_digit 0 word ≡ n
    → (cond (all && not none) (Some (fold append_digit 0 word)) None) ≡ Some n
named word n all none a s value = rw (a, s) (ap (λ (v : ℕ). Some v) value)

pub number_named-decimal : (n : ℕ) → n < 2 ^ 64 → number_named (decimal n) ≡ Some n
number_named-decimal n small =
    let word = decimal_by_steps IsRead one_digit one_more n small in
    named (decimal n) n (list_all is_digit (decimal n)) (length (decimal n) == 0) (decimal-digits n)
    (grind (arith, nat_tests, word.some)) word.value

-- Words that are compared.

pub bytes_eq-same : (word : List ℕ) → bytes_eq word word ≡ true
bytes_eq-same word = (bytes_eq-Decides word word).1 refl

-- each number has its own word
pub decimal-other : (m n : ℕ) → m < 2 ^ 64 → n < 2 ^ 64 → m ≢ n → bytes_eq (decimal m) (decimal n) ≡ false
decimal-other m n low high other =
    false_from_ne_true (bytes_eq (decimal m) (decimal n))
    (λ same. other (decimal_injective m n low high ((bytes_eq-Decides (decimal m) (decimal n)).0 same)))

-- and a word that has something else than digits is no number's
pub word-no_number : (word : List ℕ) (n : ℕ) → list_all is_digit word ≡ false → bytes_eq word (decimal n) ≡ false
word-no_number word n other =
    false_from_ne_true (bytes_eq word (decimal n))
    (λ same. both_ways (list_all is_digit word) other
    (ap (list_all is_digit) ((bytes_eq-Decides word (decimal n)).0 same) ∙ decimal-digits n))
