-- A file that begins with the mark of UTF-16 is refused by the reader of scripts in its first line.
use Rattle.std.proofs.Common.{◌≡◌, ℕ, zero, suc, ◌+◌, ◌-◌, ◌≤◌, ◌||◌, ◌&&◌, ◌==◌, Bool, true, false, List, [], ◌∷◌}
use Rattle.std.proofs.Common.{Option, Some, None, refl, ap, ◌∙◌, sym, inl, inr, arith, length, take, drop, get_or}
use Rattle.std.specs.Prelude.{if◌then◌else◌, position, slice_index}
use Rattle.std.proofs.lemmas.Bool.Decides.{nat_tests}
use Rattle.std.proofs.lemmas.List.Quantifiers.{position-Some}
use Rattle.ttp_base.specs.Faults.{first_fault}
use Rattle.ttp_world.specs.declared.medl.Medl.{Medl}
use Rattle.script_text.specs.Lines.{lines_of_file, words_of_line, is_blank, is_line_feed}
use Rattle.script_text.specs.Lines.{without_return, without_empty_end}
use Rattle.script_errors.proofs.FromBelow.{lines_of-cut, lines_of-rest}
use Rattle.script_text.specs.Faults.{line_faults}
use Rattle.script_text.specs.ScriptFile.{script_faults, stated_script, statements_of, script_of, lines_script}
use Rattle.script_text.specs.declared.error.LineFault.TheVariants as faults
use Rattle.script_errors.specs.declared.error.Wrong.TheVariants as wrong
use Rattle.script_errors.specs.declared.spots.Spot.{Spot}
use Rattle.script_errors.specs.Spots.{spot, spots_of, spots_from, spot_text, spot_texts}
use Rattle.script_errors.specs.Errors.{error_of_word, is_utf16}
use Rattle.script_errors.specs.Agrees.{Agrees}
use Rattle.script_errors.proofs.SpotWords.{texts_are_words}
use Rattle.script_errors.proofs.FileAgree.{first_at, agrees_with}

-- a list begins with a byte
record Begins (b : ℕ) (bytes : List ℕ) : Type 0 where
  rest : List ℕ
  is : bytes ≡ b ∷ rest

kept : (drops : Bool) (b c : ℕ) (xs : List ℕ)
    → Begins b (if drops then take (length (b ∷ c ∷ xs) - 1) (b ∷ c ∷ xs) else b ∷ c ∷ xs)
kept true b c xs = record {
  rest = take (length xs) (c ∷ xs);
  is = ap (λ (n : ℕ). take n (b ∷ c ∷ xs)) (let e : length (b ∷ c ∷ xs) - 1 ≡ suc (length xs) = omega arith in e);
}
kept false b c xs = record { rest = c ∷ xs; is = refl }

kept_line : (b c : ℕ) (xs : List ℕ) → Begins b (without_return (b ∷ c ∷ xs))
kept_line b c xs = kept (slice_index (b ∷ c ∷ xs) (length (b ∷ c ∷ xs) - 1) == 13) b c xs

-- the first line of a file begins with the file's first byte, where neither it nor the second ends a line
record FirstLine (b : ℕ) (bytes : List ℕ) : Type 0 where
  line : List ℕ
  lines : List (List ℕ)
  is : lines_of_file bytes ≡ line ∷ lines
  begins : Begins b line

one_line : (b : ℕ) (line : List ℕ) → Begins b line → without_empty_end (line ∷ []) ≡ line ∷ []
one_line b line begins = rw begins.is refl

cut_at : (b c : ℕ) (xs : List ℕ) (i : ℕ) → is_line_feed b ≡ false → is_line_feed c ≡ false
    → is_line_feed (get_or (b ∷ c ∷ xs) i 0) ≡ true → Begins b (without_return (take i (b ∷ c ∷ xs)))
cut_at b c xs zero b_off c_off here = let off = sym b_off ∙ here in cc
cut_at b c xs (suc zero) b_off c_off here = let off = sym c_off ∙ here in cc
cut_at b c xs (suc (suc n)) b_off c_off here = kept_line b c (take n xs)

first_line : (b c : ℕ) (xs : List ℕ) (end : Option ℕ) → is_line_feed b ≡ false → is_line_feed c ≡ false
    → position is_line_feed (b ∷ c ∷ xs) ≡ end → FirstLine b (b ∷ c ∷ xs)
first_line b c xs None b_off c_off is = record {
  line = without_return (b ∷ c ∷ xs);
  lines = [];
  is = lines_of-rest (b ∷ c ∷ xs) is ∙ one_line b (without_return (b ∷ c ∷ xs)) (kept_line b c xs);
  begins = kept_line b c xs;
}
first_line b c xs (Some i) b_off c_off is = record {
  line = without_return (take i (b ∷ c ∷ xs));
  lines = lines_of_file (drop (i + 1) (b ∷ c ∷ xs));
  is = lines_of-cut (b ∷ c ∷ xs) i is;
  begins = cut_at b c xs i b_off c_off (position-Some is_line_feed (b ∷ c ∷ xs) i 0 is).1;
}

-- a word that has begun ends behind this place
record FirstSpot (place start : ℕ) (bs : List ℕ) : Type 0 where
  end : ℕ
  more : List Spot
  is : spots_from place (Some start) bs ≡ spot start end ∷ more
  behind : place ≤ end

spot_step : (place start b : ℕ) (bs : List ℕ) (blank : Bool) → is_blank b ≡ blank → FirstSpot (place + 1) start bs
    → FirstSpot place start (b ∷ bs)
spot_step place start b bs true is next =
    record { end = place; more = spots_from (place + 1) None bs; is = rw is refl; behind = omega arith }
spot_step place start b bs false is next =
    record { end = next.end; more = next.more; is = rw is next.is; behind = omega (arith, next.behind) }

first_spot : (place start : ℕ) (bs : List ℕ) → FirstSpot place start bs
first_spot place start [] = record { end = place; more = []; is = refl; behind = omega arith }
first_spot place start (b ∷ bs) = spot_step place start b bs (is_blank b) refl (first_spot (place + 1) start bs)

-- the first word of a line begins with the line's first byte, where that is no blank
record FirstWord (b : ℕ) (line : List ℕ) : Type 0 where
  word : List ℕ
  words : List (List ℕ)
  is : words_of_line line ≡ (b ∷ word) ∷ words

front_text : (b : ℕ) (bs : List ℕ) (end : ℕ) → 1 ≤ end → spot_text (b ∷ bs) (spot 0 end) ≡ b ∷ take (end - 1) bs
front_text b bs zero some = absurd (omega arith)
front_text b bs (suc n) some =
    ap (λ (k : ℕ). take k (b ∷ bs)) (let e : suc n - 0 ≡ suc n = omega arith in e)
    ∙ ap (λ (k : ℕ). b ∷ take k bs) (let e : n ≡ suc n - 1 = omega arith in e)

first_word : (b : ℕ) (bs : List ℕ) → is_blank b ≡ false → FirstWord b (b ∷ bs)
unfolding spots_of
first_word b bs plain =
    let at = first_spot (0 + 1) 0 bs in
    let spots : spots_of (b ∷ bs) ≡ spot 0 at.end ∷ at.more = rw plain at.is in
    record {
      word = take (at.end - 1) bs;
      words = spot_texts (b ∷ bs) at.more;
      is = sym (texts_are_words (b ∷ bs)) ∙ ap (spot_texts (b ∷ bs)) spots
          ∙ ap (λ (w : List ℕ). w ∷ spot_texts (b ∷ bs) at.more) (front_text b bs at.end (omega (arith, at.behind)));
    }

-- such a line is refused

word_255 : (list : Medl) (word : List ℕ) (words : List (List ℕ))
    → first_fault (line_faults list [] ((255 ∷ word) ∷ words)) ≡ Some faults.Word
unfolding line_faults
word_255 list word words = refl

word_254 : (list : Medl) (word : List ℕ) (words : List (List ℕ))
    → first_fault (line_faults list [] ((254 ∷ word) ∷ words)) ≡ Some faults.Word
unfolding line_faults
word_254 list word words = refl

refused_line : (list : Medl) (b c : ℕ) (xs : List ℕ) → is_line_feed b ≡ false → is_line_feed c ≡ false
    → is_blank b ≡ false
    → ((word : List ℕ) (words : List (List ℕ))
    → first_fault (line_faults list [] ((b ∷ word) ∷ words)) ≡ Some faults.Word)
    → Agrees (error_of_word 1 (spot 0 0) wrong.Utf16 ∷ []) (script_of list (b ∷ c ∷ xs))
unfolding script_of lines_script
refused_line list b c xs b_off c_off plain none =
    let first = first_line b c xs (position is_line_feed (b ∷ c ∷ xs)) b_off c_off refl in
    let word = first_word b first.begins.rest plain in
    let words : words_of_line first.line ≡ (b ∷ word.word) ∷ word.words = ap words_of_line first.begins.is ∙ word.is in
    let told : first_fault (line_faults list [] (words_of_line first.line)) ≡ Some faults.Word =
    ap (λ (ws : List (List ℕ)). first_fault (line_faults list [] ws)) words ∙ none word.word word.words in
    agrees_with _ (stated_script list (statements_of [] (lines_of_file (b ∷ c ∷ xs)))) _ (inr (record {
      line = 1;
      fault = faults.Word;
      first = ap (λ (lines : List (List ℕ)). first_fault (script_faults list 1 [] lines)) first.is
          ∙ first_at 1 (line_faults list [] (words_of_line first.line)) faults.Word _ told;
      tells = record { none_before = (omega arith, tt); tells = inl (refl, refl) };
    }))

both_bytes : (list : Medl) (b c : ℕ) (xs : List ℕ) (little : Bool) → ((b == 255) && (c == 254)) ≡ little
    → (((b == 255) && (c == 254)) || ((b == 254) && (c == 255))) ≡ true
    → Agrees (error_of_word 1 (spot 0 0) wrong.Utf16 ∷ []) (script_of list (b ∷ c ∷ xs))
both_bytes list b c xs true is marked =
    let b_is : b ≡ 255 = grind (arith, nat_tests) in
    let c_is : c ≡ 254 = grind (arith, nat_tests) in
    rw (b_is, c_is) (refused_line list 255 254 xs refl refl refl (word_255 list))
both_bytes list b c xs false is marked =
    let big : ((b == 254) && (c == 255)) ≡ true = rw is at marked in
    let b_is : b ≡ 254 = grind (arith, nat_tests) in
    let c_is : c ≡ 255 = grind (arith, nat_tests) in
    rw (b_is, c_is) (refused_line list 254 255 xs refl refl refl (word_254 list))

one_byte : (a b : Bool) → ((a && false) || (b && false)) ≡ true → ⊥
one_byte true true is = cc
one_byte true false is = cc
one_byte false true is = cc
one_byte false false is = cc

pub utf16_agrees : (list : Medl) (bytes : List ℕ) → is_utf16 bytes ≡ true
    → Agrees (error_of_word 1 (spot 0 0) wrong.Utf16 ∷ []) (script_of list bytes)
utf16_agrees list [] is = cc
utf16_agrees list (b ∷ []) is = absurd (one_byte (b == 255) (b == 254) is)
utf16_agrees list (b ∷ c ∷ xs) is = both_bytes list b c xs ((b == 255) && (c == 254)) refl is
