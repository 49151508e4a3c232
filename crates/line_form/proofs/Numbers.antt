-- Numbers: what is written is read as that, and what is read was written so.
use Rattle.std.proofs.Common.{◌≡◌, ℕ, zero, suc, ◌^◌, ◌<◌, ◌≤◌, Bool, true, false, cond, ◌&&◌, not}
use Rattle.std.proofs.Common.{ℤ, pos, negsuc, neg_ℤ, List, [], ◌∷◌, length, get_or, drop, fold, Option, Some, None}
use Rattle.std.proofs.Common.{refl, sym, ap, subst, ◌∙◌, arith, decimal, rules, unsigned_abs, lit<}
use Rattle.std.specs.Prelude.{◌==◌, nat_le, nat_lt, slice_index}
use Rattle.std.specs.Fmt.{signed_decimal}
use Rattle.std.specs.List.{list_all}
use Rattle.std.proofs.lemmas.Bool.{and_parts, leb-true, ltb-true, eqb-true}
use Rattle.std.proofs.lemmas.Bool.Decides.{nat_tests}
use Rattle.std.proofs.lemmas.Fmt.{decimal_digit, first_decimal, length-decimal-le, decimal-digits_value}
use Rattle.std.proofs.Math.Nat.{pow-le-pow_right}
use Rattle.std.proofs.lemmas.Str.Parse.{IsNumeralModel, numerals_by_fold, digits_value_short}
use Rattle.line_form.specs.Kinds.{is_digit, append_digit, number_named}
use Rattle.line_form.proofs.NumberWords.{number_named-decimal}
use Rattle.line_form.proofs.NumberWords.{not_zero}
use Rattle.line_form.specs.Kinds.{has_leading_zero, numeral_in, numeral, signed_numeral, ◌>>=◌, given}
use Rattle.line_form.proofs.Tests.{guarded, barred, some_same, was_given, gives, bound, is_le, is_lt}

no_leading_zero : (n : ℕ) → n < 2 ^ 64 → has_leading_zero (decimal n) ≡ false
no_leading_zero zero small = let e = decimal_digit 0 (omega arith) in rw e refl
no_leading_zero (suc n) small =
    let high = first_decimal (suc n) (omega arith) small in
    grind (arith, nat_tests, high)

numeral_by : (short bare : Bool) (named : Option ℕ) → short ≡ true → bare ≡ false
    → cond (short && not bare) named None ≡ named
numeral_by short bare named s b = rw (s, b) refl

within_64 : (most n : ℕ) → most ≤ 18 → n < 10 ^ most → n < 2 ^ 64
within_64 most n few small =
    let more : 10 ^ most ≤ 10 ^ 18 = pow-le-pow_right {n = 10} (lit< tt) {i = most} {j = 18} few in
    omega (arith, more, small)

pub numeral_in-again : (most n : ℕ) → 0 < most → most ≤ 18 → n < 10 ^ most → numeral_in most (decimal n) ≡ Some n
unfolding numeral_in
numeral_in-again most n some few small =
    let fits = within_64 most n few small in
    numeral_by (nat_le (length (decimal n)) most) (has_leading_zero (decimal n)) (number_named (decimal n))
    (is_le (length (decimal n)) most (length-decimal-le most n some small fits)) (no_leading_zero n fits)
    ∙ number_named-decimal n fits

pub numeral-again : (limit n : ℕ) → limit ≤ 10 ^ 18 → n < limit → numeral limit (decimal n) ≡ Some n
unfolding numeral
numeral-again limit n few small =
    ap (λ (r : Option ℕ). r >>= λ m. given (nat_lt m limit) m)
    (numeral_in-again 18 n (omega arith) (omega arith) (omega (arith, few, small)))
    ∙ gives (nat_lt n limit) n (is_lt n limit small)

pub own : IsNumeralModel (λ word. list_all is_digit word ≡ true) (fold append_digit 0)
own = numerals_by_fold _ (search rules) (λ v word. fold append_digit v word) (search rules)

pub no_zero : (word : List ℕ) → has_leading_zero word ≡ false → 0 < length word → get_or word 0 0 ≡ 48 → length word ≡ 1
no_zero word none some first = grind (arith, nat_tests)

pub record Writes (word : List ℕ) (limit n : ℕ) : Type 0 where
  pub text : word ≡ decimal n
  pub small : n < limit

pub numeral_in-takes : (most : ℕ) (word : List ℕ) (n : ℕ) → most ≤ 18 → numeral_in most word ≡ Some n
    → Writes word (10 ^ most) n
unfolding numeral_in
numeral_in-takes most word n few e =
    let named = guarded (nat_le (length word) most && not (has_leading_zero word)) (number_named word) n e in
    let tests = and_parts (nat_le (length word) most) (not (has_leading_zero word)) named.0 in
    let short : length word ≤ most = leb-true (length word) most tests.0 in
    let value =
    guarded (list_all is_digit word && not (length word == 0)) (Some (fold append_digit 0 word)) n named.1 in
    let digits = and_parts (list_all is_digit word) (not (length word == 0)) value.0 in
    let is : fold append_digit 0 word ≡ n = some_same (fold append_digit 0 word) n value.1 in
    let some : 0 < length word = grind (arith, nat_tests, digits.1) in
    let bare : has_leading_zero word ≡ false = grind (arith, nat_tests, tests.1) in
    let small = digits_value_short own word most digits.0 short in
    let most_18 : 10 ^ most ≤ 10 ^ 18 = pow-le-pow_right {n = 10} (lit< tt) {i = most} {j = 18} few in
    record {
      text = sym (decimal-digits_value own word digits.0 some (no_zero word bare some) (omega (arith, small, most_18)))
          ∙ ap decimal is;
      small = omega (arith, small, is);
    }

pub numeral-takes : (limit : ℕ) (word : List ℕ) (n : ℕ) → numeral limit word ≡ Some n → Writes word limit n
unfolding numeral
numeral-takes limit word n e =
    let b = bound (numeral_in 18 word) (λ m. given (nat_lt m limit) m) n e in
    let small = was_given (nat_lt b.value limit) b.value n b.gives in record {
      text = (numeral_in-takes 18 word b.value (omega arith) b.read).text ∙ ap decimal small.1;
      small = omega (arith, ltb-true b.value limit small.0, small.1);
    }

-- With a sign.

no_minus : (n : ℕ) → n < 2 ^ 64 → (slice_index (decimal n) 0 == 45) ≡ false
no_minus zero small = let e = decimal_digit 0 (omega arith) in rw e refl
no_minus (suc n) small =
    let high = first_decimal (suc n) (omega arith) small in
    grind (arith, nat_tests, high)

pub signed-again : (limit : ℕ) (z : ℤ) → limit ≤ 10 ^ 18 → unsigned_abs z < limit
    → signed_numeral limit (signed_decimal z) ≡ Some z
unfolding signed_numeral
signed-again limit (pos n) few small =
    rw (no_minus n (omega (arith, few, small)), numeral-again limit n few small) refl
signed-again limit (negsuc n) few small =
    rw (numeral-again limit (suc n) few (omega (arith, small)), not_zero n) refl

pub first_is : (word : List ℕ) (b : ℕ) → 0 < b → (slice_index word 0 == b) ≡ true → word ≡ b ∷ drop 1 word
first_is [] b some same = absurd (omega (arith, some, eqb-true 0 b same))
first_is (c ∷ word) b some same = ap (λ (x : ℕ). x ∷ word) (eqb-true c b same)

pub either : {A : Type 0} (P : A → Type 0) (b : Bool) (r s : Option A) (y : A) → (b ≡ true → r ≡ Some y → P y)
    → (b ≡ false → s ≡ Some y → P y) → cond b r s ≡ Some y → P y
either P true r s y one other e = one refl e
either P false r s y one other e = other refl e

negative : (word : List ℕ) (limit n : ℕ) → (slice_index word 0 == 45) ≡ true → Writes (drop 1 word) limit n
    → (n == 0) ≡ false → (word ≡ signed_decimal (neg_ℤ (pos n))) × (unsigned_abs (neg_ℤ (pos n)) < limit)
negative word limit zero minus wrote some = cc
negative word limit (suc n) minus wrote some =
    (first_is word 45 (omega arith) minus ∙ ap (λ (t : List ℕ). 45 ∷ t) wrote.text, omega (arith, wrote.small))

pub signed-takes : (limit : ℕ) (word : List ℕ) (z : ℤ) → signed_numeral limit word ≡ Some z
    → (word ≡ signed_decimal z) × (unsigned_abs z < limit)
unfolding signed_numeral
signed-takes limit word z e =
    let P : ℤ → Type 0 = λ y. (word ≡ signed_decimal y) × (unsigned_abs y < limit) in
    either P (slice_index word 0 == 45) _ _ z
    (λ minus r. let b = bound (numeral limit (drop 1 word)) _ z r in
    let wrote = numeral-takes limit (drop 1 word) b.value b.read in
    let more = barred (b.value == 0) (Some (neg_ℤ (pos b.value))) z b.gives in
    subst P (some_same (neg_ℤ (pos b.value)) z more.1) (negative word limit b.value minus wrote more.0))
    (λ plus r. let b = bound (numeral limit word) _ z r in
    let wrote = numeral-takes limit word b.value b.read in
    subst P (some_same (pos b.value) z b.gives) (wrote.text, wrote.small)) e
