-- A line whose words stand with single blanks between them, cut into these words.
use Rattle.std.proofs.Common.{◌≡◌, ℕ, suc, ◌+◌, ◌<◌, ◌≤◌, ◌==◌, true, false, List, [], ◌∷◌, ◌++◌, length, take}
use Rattle.std.proofs.Common.{drop, get_or, refl, ap, ◌∙◌, arith, length-append}
use Rattle.std.specs.List.{list_all}
use Rattle.std.proofs.lemmas.List.{take_all}
use Rattle.ttp_base.proofs.Numerals.{has, has-append}
use Rattle.ttp_world.proofs.SmallTests.{or_parts}
use Rattle.script_text.specs.Lines.{is_blank, is_part, words_of_line}
use Rattle.script_laws.proofs.FromBelow.{words_of-front, words_of-whole, words_of-empty}

-- What stands before another text.

pub take-front : (w : List ℕ) (b : ℕ) (rest : List ℕ) → take (length w) (w ++ b ∷ rest) ≡ w
take-front [] b rest = refl
take-front (x ∷ w) b rest = ap (λ (xs : List ℕ). x ∷ xs) (take-front w b rest)

drop_past : (w : List ℕ) (b : ℕ) (rest : List ℕ) → drop (suc (length w)) (w ++ b ∷ rest) ≡ rest
drop_past [] b rest = refl
drop_past (x ∷ w) b rest = drop_past w b rest

pub drop-front : (w : List ℕ) (b : ℕ) (rest : List ℕ) → drop (length w + 1) (w ++ b ∷ rest) ≡ rest
drop-front w b rest =
    let same : length w + 1 ≡ suc (length w) = omega arith in
    ap (λ (n : ℕ). drop n (w ++ b ∷ rest)) same ∙ drop_past w b rest

pub at-front : (w : List ℕ) (b : ℕ) (rest : List ℕ) → get_or (w ++ b ∷ rest) (length w) 0 ≡ b
at-front [] b rest = refl
at-front (x ∷ w) b rest = at-front w b rest

-- a text that has bytes, and none that ends a word or a line
pub record IsWord (word : List ℕ) : Type 0 where
  pub some : 1 ≤ length word
  pub parts : list_all is_part word ≡ true
  pub feeds : has 10 word ≡ false
  pub returns : has 13 word ≡ false

parts_of : (word : List ℕ) → has 32 word ≡ false → has 9 word ≡ false → list_all is_part word ≡ true
parts_of [] space tab = refl
parts_of (x ∷ word) space tab =
    let a = or_parts (x == 32) (has 32 word) space in
    let b = or_parts (x == 9) (has 9 word) tab in
    rw (a.0, b.0, parts_of word a.1 b.1) refl

pub word_of : (word : List ℕ) → 1 ≤ length word → ((b : ℕ) → b < 45 → has b word ≡ false) → IsWord word
word_of word some none = record {
  some = some;
  parts = parts_of word (none 32 (omega arith)) (none 9 (omega arith));
  feeds = none 10 (omega arith);
  returns = none 13 (omega arith);
}

-- a line that has these words, and no byte that ends a line
pub record HasWords (line : List ℕ) (words : List (List ℕ)) : Type 0 where
  pub cut : words_of_line line ≡ words
  pub feeds : has 10 line ≡ false
  pub returns : has 13 line ≡ false

none_then : (b : ℕ) (word rest : List ℕ) → (32 == b) ≡ false → has b word ≡ false → has b rest ≡ false
    → has b (word ++ 32 ∷ rest) ≡ false
none_then b word rest blank first second = has-append b word (32 ∷ rest) first (rw (blank, second) refl)

pub word_then : (word rest : List ℕ) (words : List (List ℕ)) → IsWord word → HasWords rest words
    → HasWords (word ++ 32 ∷ rest) (word ∷ words)
word_then word rest words is more =
    let line = word ++ 32 ∷ rest in
    let within : length word < length line = omega (arith, length-append word (32 ∷ rest)) in
    let parts : list_all is_part (take (length word) line) ≡ true =
    ap (list_all is_part) (take-front word 32 rest) ∙ is.parts in
    let blank : is_blank (get_or line (length word) 0) ≡ true = ap is_blank (at-front word 32 rest) in
    record {
      cut =
          words_of-front line (length word) is.some within parts blank
          ∙ rw (take-front word 32 rest, drop-front word 32 rest, more.cut) refl;
      feeds = none_then 10 word rest refl is.feeds more.feeds;
      returns = none_then 13 word rest refl is.returns more.returns;
    }

pub last_word : (word : List ℕ) → IsWord word → HasWords word (word ∷ [])
last_word word is =
    let all = take_all (length word) word (omega arith) in
    record {
      cut = words_of-whole word (length word) is.some refl (ap (list_all is_part) all ∙ is.parts)
          ∙ rw (all, words_of-empty) refl;
      feeds = is.feeds;
      returns = is.returns;
    }
