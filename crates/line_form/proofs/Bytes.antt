-- Bytes that a text has not, and texts cut or parted at such a byte.
use Rattle.std.proofs.Common.{◌≡◌, ℕ, zero, suc, ◌+◌, ◌/◌, ◌%◌, ◌<◌, Bool, true, false, cond, ◌||◌, not}
use Rattle.std.proofs.Common.{ℤ, pos, negsuc, List, [], ◌∷◌, ◌++◌, refl, sym, ap, ◌∙◌, arith, decimal}
use Rattle.std.specs.Prelude.{◌==◌, nat_lt}
use Rattle.std.specs.Fmt.{digit_glyph, digits_onto, digits, signed_decimal}
use Rattle.std.specs.List.{list_all}
use Rattle.std.proofs.lemmas.Bool.{and_parts, eqb-true}
use Rattle.std.proofs.lemmas.Bool.Decides.{nat_tests}
use Rattle.std.proofs.lemmas.List.{append-nil}
use Rattle.std.proofs.lemmas.List.Folds.{list_any-append}
use Rattle.ttp_base.specs.Text.{hex_digit, hex, hex_bytes}
use Rattle.line_form.specs.Kinds.{has_byte, front, back, parted, onto_first, each_behind}
use Rattle.line_form.specs.Kinds.{joined_by, is_no_digit, is_no_hex}
use Rattle.line_form.proofs.Tests.{is_not}

pub has-append : (b : ℕ) (x y : List ℕ) → has_byte b x ≡ false → has_byte b y ≡ false → has_byte b (x ++ y) ≡ false
has-append b x y p q = rw (list_any-append (λ c. c == b) x y, p, q) refl

pub has-cons : (b c : ℕ) (y : List ℕ) → (c == b) ≡ false → has_byte b y ≡ false → has_byte b (c ∷ y) ≡ false
has-cons b c y p q = rw (p, q) refl

-- Digits.

glyph_differs : (b d : ℕ) → d < 10 → is_no_digit b ≡ true → (cond (nat_lt d 10) (48 + d) (87 + d) == b) ≡ false
glyph_differs b d small lacks = grind (arith, nat_tests)

hex_differs : (b d : ℕ) → d < 16 → is_no_hex b ≡ true → (hex_digit d == b) ≡ false
hex_differs b d small lacks = grind (arith, nat_tests)

has-digits_onto : (b k n : ℕ) (text : List ℕ) → is_no_digit b ≡ true
    → has_byte b (digits_onto k 10 false n text) ≡ has_byte b text
has-digits_onto b zero n text lacks = refl
has-digits_onto b (suc k) n text lacks =
    let more = digit_glyph false (n % 10) ∷ text in
    let here : has_byte b more ≡ has_byte b text = rw (glyph_differs b (n % 10) (omega arith) lacks) refl in
    let go : (last : Bool) → has_byte b (cond last more (digits_onto k 10 false (n / 10) more)) ≡ has_byte b text =
    elim [ true ↦ here | false ↦ has-digits_onto b k (n / 10) more lacks ∙ here ] in
    go (n / 10 == 0)

pub has-decimal : (b n : ℕ) → is_no_digit b ≡ true → has_byte b (decimal n) ≡ false
unfolding digits
has-decimal b n lacks = has-digits_onto b 64 n [] lacks

pub has-signed : (b : ℕ) (z : ℤ) → is_no_digit b ≡ true → (45 == b) ≡ false → has_byte b (signed_decimal z) ≡ false
has-signed b (pos n) lacks sign = has-decimal b n lacks
has-signed b (negsuc n) lacks sign = rw (sign, has-decimal b (suc n) lacks) refl

pub has-hex : (b k v : ℕ) → is_no_hex b ≡ true → has_byte b (hex k v) ≡ false
has-hex b zero v lacks = refl
has-hex b (suc k) v lacks =
    has-append b (hex k (v / 16)) (hex_digit (v % 16) ∷ []) (has-hex b k (v / 16) lacks)
    (rw (hex_differs b (v % 16) (omega arith) lacks) refl)

pub has-hex_bytes : (b : ℕ) (bytes : List ℕ) → is_no_hex b ≡ true → (list_all (λ c. nat_lt c 256) bytes) ≡ true
    → has_byte b (hex_bytes bytes) ≡ false
has-hex_bytes b [] lacks small = refl
has-hex_bytes b (c ∷ bytes) lacks small =
    let t = and_parts (nat_lt c 256) (list_all (λ d. nat_lt d 256) bytes) small in
    let one : c / 16 < 16 = go c t.0 in
    rw (hex_differs b (c / 16) one lacks, hex_differs b (c % 16) (omega arith) lacks) (has-hex_bytes b bytes lacks t.1)
  where
    go : (d : ℕ) → nat_lt d 256 ≡ true → d / 16 < 16
    go d is = grind (arith, nat_tests)

-- Cuts.

pub front-again : (b : ℕ) (x rest : List ℕ) → has_byte b x ≡ false → front b (x ++ b ∷ rest) ≡ x
front-again b [] rest lacks = go (b == b) (grind (arith, nat_tests))
  where
    go : (is : Bool) → is ≡ true → cond is [] (b ∷ front b rest) ≡ []
    go true e = refl
    go false e = cc
front-again b (c ∷ x) rest lacks = go (c == b) lacks (front-again b x rest)
  where
    go : (is : Bool) → (is || has_byte b x) ≡ false → (has_byte b x ≡ false → front b (x ++ b ∷ rest) ≡ x)
        → cond is [] (c ∷ front b (x ++ b ∷ rest)) ≡ c ∷ x
    go true e more = cc
    go false e more = ap (λ (l : List ℕ). c ∷ l) (more e)

pub back-again : (b : ℕ) (x rest : List ℕ) → has_byte b x ≡ false → back b (x ++ b ∷ rest) ≡ b ∷ rest
back-again b [] rest lacks = go (b == b) (grind (arith, nat_tests))
  where
    go : (is : Bool) → is ≡ true → cond is (b ∷ rest) (back b rest) ≡ b ∷ rest
    go true e = refl
    go false e = cc
back-again b (c ∷ x) rest lacks = go (c == b) lacks (back-again b x rest)
  where
    go : (is : Bool) → (is || has_byte b x) ≡ false → (has_byte b x ≡ false → back b (x ++ b ∷ rest) ≡ b ∷ rest)
        → cond is (c ∷ (x ++ b ∷ rest)) (back b (x ++ b ∷ rest)) ≡ b ∷ rest
    go true e more = cc
    go false e more = more e

pub front-all : (b : ℕ) (x : List ℕ) → has_byte b x ≡ false → (front b x ≡ x) × (back b x ≡ [])
front-all b [] lacks = (refl, refl)
front-all b (c ∷ x) lacks = go (c == b) lacks (front-all b x)
  where
    go : (is : Bool) → (is || has_byte b x) ≡ false → (has_byte b x ≡ false → (front b x ≡ x) × (back b x ≡ []))
        → (cond is [] (c ∷ front b x) ≡ c ∷ x) × (cond is (c ∷ x) (back b x) ≡ [])
    go true e more = cc
    go false e more = let m = more e in (ap (λ (l : List ℕ). c ∷ l) m.0, m.1)

-- Parts.

parted-word : (b : ℕ) (x : List ℕ) → has_byte b x ≡ false → parted b x ≡ x ∷ []
parted-word b [] lacks = refl
parted-word b (c ∷ x) lacks = go (c == b) lacks (parted-word b x)
  where
    go : (is : Bool) → (is || has_byte b x) ≡ false → (has_byte b x ≡ false → parted b x ≡ x ∷ [])
        → cond is ([] ∷ parted b x) (onto_first c (parted b x)) ≡ (c ∷ x) ∷ []
    go true e more = cc
    go false e more = ap (onto_first c) (more e)

parted-append : (b : ℕ) (x rest : List ℕ) → has_byte b x ≡ false → parted b (x ++ b ∷ rest) ≡ x ∷ parted b rest
parted-append b [] rest lacks = go (b == b) (grind (arith, nat_tests))
  where
    go : (is : Bool) → is ≡ true → cond is ([] ∷ parted b rest) (onto_first b (parted b rest)) ≡ [] ∷ parted b rest
    go true e = refl
    go false e = cc
parted-append b (c ∷ x) rest lacks = go (c == b) lacks (parted-append b x rest)
  where
    go : (is : Bool) → (is || has_byte b x) ≡ false
        → (has_byte b x ≡ false → parted b (x ++ b ∷ rest) ≡ x ∷ parted b rest)
        → cond is ([] ∷ parted b (x ++ b ∷ rest)) (onto_first c (parted b (x ++ b ∷ rest))) ≡ (c ∷ x) ∷ parted b rest
    go true e more = cc
    go false e more = ap (onto_first c) (more e)

pub parted-again : (b : ℕ) (word : List ℕ) (words : List (List ℕ))
    → list_all (λ w. not (has_byte b w)) (word ∷ words) ≡ true
    → parted b (joined_by b (word ∷ words)) ≡ word ∷ words
parted-again b word [] lacks =
    let t = and_parts (not (has_byte b word)) true lacks in go (word ++ []) refl (is_not (has_byte b word) t.0)
  where
    go : (text : List ℕ) → text ≡ word ++ [] → has_byte b word ≡ false → parted b text ≡ word ∷ []
    go text e none = ap (parted b) e ∙ rw nil (parted-word b word none)
      where
        nil : word ++ [] ≡ word
        nil = append-nil word
parted-again b word (next ∷ words) lacks =
    let t = and_parts (not (has_byte b word)) (list_all (λ w. not (has_byte b w)) (next ∷ words)) lacks in
    parted-append b word (joined_by b (next ∷ words)) (is_not (has_byte b word) t.0)
    ∙ ap (λ (l : List (List ℕ)). word ∷ l) (parted-again b next words t.1)

joined_by-onto_first : (b c : ℕ) (words : List (List ℕ)) → joined_by b (onto_first c words) ≡ c ∷ joined_by b words
joined_by-onto_first b c [] = refl
joined_by-onto_first b c (word ∷ words) = refl

-- there is a first part
pub parted-first : (b : ℕ) (text : List ℕ)
    → (word : List ℕ) × ((words : List (List ℕ)) × (parted b text ≡ word ∷ words))
parted-first b [] = ([], ([], refl))
parted-first b (c ∷ text) = go (c == b) (parted b text)
  where
    go : (is : Bool) (parts : List (List ℕ))
        → (word : List ℕ) × ((words : List (List ℕ)) × (cond is ([] ∷ parts) (onto_first c parts) ≡ word ∷ words))
    go true parts = ([], (parts, refl))
    go false [] = (c ∷ [], ([], refl))
    go false (word ∷ words) = (c ∷ word, (words, refl))

pub joined_by-parted : (b : ℕ) (text : List ℕ) → joined_by b (parted b text) ≡ text
joined_by-parted b [] = refl
joined_by-parted b (c ∷ text) =
    let p = parted-first b text in go (c == b) refl (parted b text) p.0 p.1.0 p.1.1 (joined_by-parted b text)
  where
    go : (is : Bool) → (c == b) ≡ is → (parts : List (List ℕ)) (word : List ℕ) (words : List (List ℕ))
        → parts ≡ word ∷ words → joined_by b parts ≡ text
        → joined_by b (cond is ([] ∷ parts) (onto_first c parts)) ≡ c ∷ text
    go true e parts word words is rest =
        let same : c ≡ b = eqb-true c b e in
        ap (λ (ps : List (List ℕ)). each_behind b ps) is
        ∙ ap (λ (t : List ℕ). b ∷ t) (ap (joined_by b) (sym is) ∙ rest) ∙ ap (λ (d : ℕ). d ∷ text) (sym same)
    go false e parts word words is rest = joined_by-onto_first b c parts ∙ ap (λ (t : List ℕ). c ∷ t) rest
