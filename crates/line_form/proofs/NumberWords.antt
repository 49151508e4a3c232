-- Numbers as words: digits alone, which are read as the number; and words that are compared.
use Rattle.std.proofs.Common.{◌≡◌, ℕ, zero, suc, ◌+◌, ◌/◌, ◌%◌, ◌<◌, ◌≤◌, ◌^◌, Bool}
use Rattle.std.proofs.Common.{true, false, cond, ◌&&◌, not, List, [], ◌∷◌}
use Rattle.std.proofs.Common.{◌++◌, length, Some, None, refl, ap, ◌∙◌, arith, length-append, bytes_eq, decimal, fold}
use Rattle.std.specs.Prelude.{◌==◌, nat_lt}
use Rattle.std.specs.Fmt.{digit_glyph, digits_onto, digits}
use Rattle.std.specs.List.{list_all}
use Rattle.std.proofs.lemmas.Bool.Decides.{nat_tests}
use Rattle.std.proofs.lemmas.Slice.Eq.{bytes_eq-Decides}
use Rattle.std.proofs.lemmas.Fmt.{decimal_by_steps}
use Rattle.std.proofs.lemmas.List.Sums.{fold-append}
use Rattle.line_form.specs.Kinds.{is_digit, append_digit, number_named}

-- Digits alone.

glyph-digit : (small : Bool) (d : ℕ) → d < 10 → small ≡ true → is_digit (cond small (48 + d) (87 + d)) ≡ true
glyph-digit small d less below = rw below (grind (arith, nat_tests))

digits_onto-digits : (k n : ℕ) (text : List ℕ) → list_all is_digit text ≡ true
    → list_all is_digit (digits_onto k 10 false n text) ≡ true
digits_onto-digits zero n text before = before
digits_onto-digits (suc k) n text before =
    let glyph = digit_glyph false (n % 10) in
    let one : is_digit glyph ≡ true =
    glyph-digit (nat_lt (n % 10) 10) (n % 10) (omega arith) (grind (arith, nat_tests)) in
    let here : list_all is_digit (glyph ∷ text) ≡ true =
    ap (λ (b : Bool). b && list_all is_digit text) one ∙ before in
    let go : (last : Bool)
    → list_all is_digit (cond last (glyph ∷ text) (digits_onto k 10 false (n / 10) (glyph ∷ text))) ≡ true =
    elim [ true ↦ here | false ↦ digits_onto-digits k (n / 10) (glyph ∷ text) here ] in
    go (n / 10 == 0)

decimal-digits : (n : ℕ) → list_all is_digit (decimal n) ≡ true
unfolding digits
decimal-digits n = digits_onto-digits 64 n [] refl

-- The number is read again.

pub record IsRead (n : ℕ) (word : List ℕ) : Type 0 where
  pub some : 0 < length word
  pub value : fold append_digit 0 word ≡ n

one_digit : (n : ℕ) → n < 10 → IsRead n ((48 + n) ∷ [])
one_digit n small = record { some = omega arith; value = omega arith }

one_more : (n : ℕ) (word : List ℕ) → 10 ≤ n → IsRead (n / 10) word → IsRead n (word ++ (48 + n % 10) ∷ [])
one_more n word large number = record {
  some = omega (arith, length-append word ((48 + n % 10) ∷ []));
  value = omega (arith, fold-append append_digit 0 word ((48 + n % 10) ∷ []), number.value);
}

named : (word : List ℕ) (n : ℕ) (all none : Bool) → all ≡ true → none ≡ false → fold append_digit 0 word ≡ n
    → (cond (all && not none) (Some (fold append_digit 0 word)) None) ≡ Some n
named word n all none a s value = rw (a, s) (ap (λ (v : ℕ). Some v) value)

pub number_named-decimal : (n : ℕ) → n < 2 ^ 64 → number_named (decimal n) ≡ Some n
number_named-decimal n small =
    let word = decimal_by_steps IsRead one_digit one_more n small in
    named (decimal n) n (list_all is_digit (decimal n)) (length (decimal n) == 0) (decimal-digits n)
    (grind (arith, nat_tests, word.some)) word.value

-- Words that are compared.

pub bytes_eq-same : (word : List ℕ) → bytes_eq word word ≡ true
bytes_eq-same word = (bytes_eq-Decides word word).1 refl

pub same_text : (w text : List ℕ) → bytes_eq w text ≡ true → w ≡ text
same_text w text same = (bytes_eq-Decides w text).0 same

pub not_zero : (n : ℕ) → (suc n == 0) ≡ false
not_zero n = grind (arith, nat_tests)
