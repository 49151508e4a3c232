-- A line cut at its words.
use Rattle.script_text.proofs.Terms.{◌≡◌, ℕ, zero, suc, ◌+◌, ◌<◌, Bool, true, false, List, [], ◌∷◌, length, take, drop}
use Rattle.script_text.proofs.Terms.{get_or, arith, refl, sym, if◌then◌else◌, is_ascii_digit, list_all, nat_tests}
use Rattle.script_text.proofs.Terms.{AllPass-from_list_all, is_blank, is_part, has_bytes, words_of_line, word_at}
use Rattle.std.proofs.lemmas.List.Sums.{list_all-from_AllPass}
use Rattle.script_text.specs.Words.{CutsWord, held, AreHeld}
use Rattle.script_text.proofs.Cuts.{has_bytes-take, words_of-empty, words_of-front, words_of-whole}

-- a digit is no blank
digit_is_part : (b : ℕ) → is_ascii_digit b ≡ true → is_part b ≡ true
digit_is_part b digit = grind (arith, nat_tests)

pub parts-digits : (word : List ℕ) → list_all is_ascii_digit word ≡ true → list_all is_part word ≡ true
parts-digits word digits = list_all-from_AllPass is_part word
    (λ k d within. digit_is_part (get_or word k d) (AllPass-from_list_all is_ascii_digit word digits k d within))

-- A word ends at a blank, or at the line's end.

pub CutsWord-blank : (line : List ℕ) (end : ℕ) → is_blank (get_or line 0 0) ≡ false → end < length line
    → list_all is_part (take end line) ≡ true → is_blank (get_or line end 0) ≡ true
    → CutsWord line (take end line) (drop (end + 1) line)
CutsWord-blank line zero first within parts blank = absurd (cc)
CutsWord-blank line (suc n) first within parts blank =
    let some : has_bytes (take (suc n) line) ≡ true = has_bytes-take (suc n) line (omega arith) (omega arith) in
    record {
      words = rw some (words_of-front line (suc n) (omega arith) within parts blank);
      end = λ none. cc;
    }

pub CutsWord-whole : (line : List ℕ) (end : ℕ) → end ≡ length line
    → list_all is_part (take end line) ≡ true → CutsWord line (take end line) []
CutsWord-whole [] end whole parts = record {
  words = rw whole words_of-empty;
  end = λ _. words_of-empty;
}
CutsWord-whole (x ∷ xs) end whole parts =
    let some : has_bytes (take end (x ∷ xs)) ≡ true = has_bytes-take end (x ∷ xs) (omega arith) (omega arith) in
    record {
      words = rw some (words_of-whole (x ∷ xs) end (omega arith) whole parts);
      end = λ _. words_of-empty;
    }

-- How many words there are.

abbrev pub held_count : List (List ℕ) → ℕ
held_count [] = 0
held_count (word ∷ words) = (if has_bytes word then 1 else 0) + held_count words

count_none : (words : List (List ℕ)) → ((i : ℕ) → word_at words i ≡ []) → held_count words ≡ 0
count_none [] none = refl
count_none (word ∷ words) none = rw (none 0) (omega (arith, count_none words (λ i. none (suc i))))

length-held_at : (word : List ℕ) (words : List (List ℕ)) (b : Bool) → has_bytes word ≡ b → AreHeld (word ∷ words)
    → (AreHeld words → length (held words) ≡ held_count words)
    → length (held (word ∷ words)) ≡ held_count (word ∷ words)
length-held_at word words true some are more =
    let rest : AreHeld words = λ i. (rw some at are (suc i)) in
    rw some (omega (arith, more rest))
length-held_at word words false none are more =
    let rest : (i : ℕ) → word_at words i ≡ [] = λ i. sym (rw none at are (suc i)) in
    rw none (omega (arith, count_none words rest))

pub length-held : (words : List (List ℕ)) → AreHeld words → length (held words) ≡ held_count words
length-held [] are = refl
length-held (word ∷ words) are =
    length-held_at word words (has_bytes word) refl are (length-held words)

-- Words that are cut off a line one after another.

-- such words are held, and have no bytes where the line has no words
pub record AreCut (line : List ℕ) (words : List (List ℕ)) : Type 0 where
  pub are : AreHeld words
  pub none : words_of_line line ≡ [] → (i : ℕ) → word_at words i ≡ []

pub AreCut-end : (line : List ℕ) → AreCut line []
AreCut-end line = record { are = λ i. refl; none = λ none i. refl }

held_some : (word : List ℕ) (words : List (List ℕ)) → AreHeld words
    → (i : ℕ) → word_at (word ∷ held words) i ≡ word_at (word ∷ words) i
held_some word words are zero = refl
held_some word words are (suc n) = are n

none_more : (words : List (List ℕ)) → ((i : ℕ) → word_at words i ≡ []) → (i : ℕ) → word_at ([] ∷ words) i ≡ []
none_more words none zero = refl
none_more words none (suc n) = none n

pub AreCut-more : (line word rest : List ℕ) (words : List (List ℕ)) → CutsWord line word rest → AreCut rest words
    → AreCut line (word ∷ words)
AreCut-more line [] rest words cut more =
    let none = none_more words (more.none (cut.end refl)) in
    record { are = λ i. sym (none i); none = λ _. none }
AreCut-more line (x ∷ xs) rest words cut more = record {
  are = held_some (x ∷ xs) words more.are;
  none = λ none. absurd (cc (none, cut.words));
}
