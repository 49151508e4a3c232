-- A text cut at its first line feed, and a line at its first word.
use Rattle.script_text.proofs.Terms.{◌≡◌, ℕ, zero, suc, ◌+◌, ◌<◌, ◌≤◌, ◌==◌, Bool, true, false, cond, List, [], ◌∷◌}
use Rattle.script_text.proofs.Terms.{length, take, drop, get_or, map, Option, Some, None, filter, arith, refl, ap, sym}
use Rattle.script_text.proofs.Terms.{◌∙◌, slice_split, list_all, nat_tests, length-take, get_or-take}
use Rattle.script_text.proofs.Terms.{AllPass-from_list_all, is_line_feed, is_blank, is_part, has_bytes, without_return}
use Rattle.script_text.proofs.Terms.{without_empty_end, lines_of_file, words_of_line}
use Rattle.std.specs.List.{position, position_or_len}
use Rattle.std.proofs.lemmas.List.{length-map, take_all}
use Rattle.std.proofs.lemmas.List.Splits.{slice_split_first, length-slice_split, slice_split-cons_yes}
use Rattle.std.proofs.lemmas.List.Quantifiers.{position-Some}
use Rattle.std.proofs.lemmas.List.Sums.{position_or_len_is}
use Rattle.std.proofs.Math.ListN.{drop_of_length-le}
use Rattle.std.proofs.Math.Seq.{drop-cons}
use Rattle.memchr.specs.Find.{IsFirstByte, is_byte}

position_or_len-is : {X : Type 0} (p : X → Bool) (xs : List X) (i : ℕ) → position p xs ≡ Some i
    → (position_or_len p xs ≡ i) × (position_or_len p xs < length xs)
position_or_len-is p xs i here = (grind (arith, nat_tests), grind (arith, nat_tests))

fails : (b : Bool) → ¬ (b ≡ true) → b ≡ false
fails true never = absurd (never refl)
fails false never = refl

-- the first byte that is a line feed, by a search for it
pub first_line_feed : (text : List ℕ) (found : Option ℕ) → IsFirstByte (is_byte 10) text found
    → found ≡ position is_line_feed text
first_line_feed text None nowhere =
    let at = position_or_len_is is_line_feed text (length text) 0 (omega arith)
    (λ k below. fails (is_line_feed (get_or text k 0)) (nowhere k (omega arith) below))
    (λ within. absurd (omega arith)) in
    grind (arith, nat_tests)
first_line_feed text (Some i) here =
    let within = here.0.high in
    let at = position_or_len_is is_line_feed text i 0 (omega arith)
    (λ k below. fails (is_line_feed (get_or text k 0)) (here.0.before k (omega arith) below))
    (λ _. here.1) in
    grind (arith, nat_tests)

-- the first piece ends where the test first passes
slice_split_position : {X : Type 0} (p : X → Bool) (xs : List X) (i : ℕ) (d : X) → position p xs ≡ Some i
    → slice_split p xs ≡ take i xs ∷ slice_split p (drop (i + 1) xs)
slice_split_position p xs i d here =
    let at = position_or_len-is p xs i here in
    slice_split_first p xs d at.1 ∙ ap (λ (k : ℕ). take k xs ∷ slice_split p (drop (k + 1) xs)) at.0

no_position-length : {X : Type 0} (p : X → Bool) (xs : List X) → position p xs ≡ None → length xs ≤ position_or_len p xs
no_position-length p xs here = grind (arith, nat_tests)

none-cons : {X : Type 0} (p : X → Bool) (x : X) (xs : List X) → position p (x ∷ xs) ≡ None
    → (p x ≡ false) × (position p xs ≡ None)
none-cons p x xs here = (grind (arith, nat_tests), grind (arith, nat_tests))

slice_split_nowhere : {X : Type 0} (p : X → Bool) (xs : List X) → position p xs ≡ None → slice_split p xs ≡ xs ∷ []
slice_split_nowhere p [] here = refl
slice_split_nowhere p (x ∷ xs) here = let step = none-cons p x xs here in grind (arith, slice_split_nowhere p xs step.1)

without_empty_end-cons : (line : List ℕ) (lines : List (List ℕ)) → 0 < length lines
    → without_empty_end (line ∷ lines) ≡ line ∷ without_empty_end lines
without_empty_end-cons line [] more = grind arith
without_empty_end-cons line (next ∷ lines) more = refl

has_pieces : (f : List ℕ → List ℕ) (p : ℕ → Bool) (xs : List ℕ) → 0 < length (map f (slice_split p xs))
has_pieces f p xs = omega (arith, length-map (slice_split p xs) f, length-slice_split p xs)

-- the first line ends at the first line feed
pub lines_of-cut : (text : List ℕ) (i : ℕ) → position is_line_feed text ≡ Some i
    → lines_of_file text ≡ without_return (take i text) ∷ lines_of_file (drop (i + 1) text)
unfolding lines_of_file
lines_of-cut text i here =
    ap (λ (pieces : List (List ℕ)). without_empty_end (map without_return pieces))
    (slice_split_position is_line_feed text i 0 here)
    ∙ without_empty_end-cons (without_return (take i text)) _
    (has_pieces without_return is_line_feed (drop (i + 1) text))

-- with no line feed, what is left is a line where it is not empty
pub lines_of-rest : (text : List ℕ) → position is_line_feed text ≡ None
    → lines_of_file text ≡ without_empty_end (without_return text ∷ [])
unfolding lines_of_file
lines_of-rest text here =
    ap (λ (pieces : List (List ℕ)). without_empty_end (map without_return pieces))
    (slice_split_nowhere is_line_feed text here)

pub lines_of-empty : lines_of_file [] ≡ []
unfolding lines_of_file
lines_of-empty = refl

-- Words.

words_of-blank : (x : ℕ) (xs : List ℕ) → is_blank x ≡ true → words_of_line (x ∷ xs) ≡ words_of_line xs
unfolding words_of_line
words_of-blank x xs blank = ap (filter has_bytes) (slice_split-cons_yes is_blank x xs blank)

-- how many blanks stand before the first word of a line that begins with this byte
blanks-cons : (x : ℕ) (xs : List ℕ) → is_blank x ≡ true
    → position_or_len is_part (x ∷ xs) ≡ suc (position_or_len is_part xs)
blanks-cons x xs blank = grind arith

blanks-none : (x : ℕ) (xs : List ℕ) → is_blank x ≡ false → position_or_len is_part (x ∷ xs) ≡ 0
blanks-none x xs part = grind arith

words_of-drop_more : (x : ℕ) (xs : List ℕ) (b : Bool) → is_blank x ≡ b
    → words_of_line xs ≡ words_of_line (drop (position_or_len is_part xs) xs)
    → words_of_line (x ∷ xs) ≡ words_of_line (drop (position_or_len is_part (x ∷ xs)) (x ∷ xs))
words_of-drop_more x xs true blank rest =
    words_of-blank x xs blank ∙ rest ∙ ap (λ (n : ℕ). words_of_line (drop n (x ∷ xs))) (sym (blanks-cons x xs blank))
words_of-drop_more x xs false part rest = ap (λ (n : ℕ). words_of_line (drop n (x ∷ xs))) (sym (blanks-none x xs part))

words_of-drop_blanks : (line : List ℕ) → words_of_line line ≡ words_of_line (drop (position_or_len is_part line) line)
words_of-drop_blanks [] = refl
words_of-drop_blanks (x ∷ xs) = words_of-drop_more x xs (is_blank x) refl (words_of-drop_blanks xs)

pub has_bytes-take : (i : ℕ) (line : List ℕ) → 0 < i → 0 < length line → has_bytes (take i line) ≡ true
has_bytes-take zero line some long = absurd (omega arith)
has_bytes-take (suc i) [] some long = absurd (omega arith)
has_bytes-take (suc i) (x ∷ xs) some long = refl

has_bytes-line : (line : List ℕ) → 0 < length line → has_bytes line ≡ true
has_bytes-line [] long = absurd (omega arith)
has_bytes-line (x ∷ xs) long = refl

pub words_of-empty : words_of_line [] ≡ []
unfolding words_of_line
words_of-empty = refl

-- blanks at the front say nothing
pub words_of-start : (line : List ℕ) (i : ℕ) → position is_part line ≡ Some i
    → words_of_line line ≡ words_of_line (drop i line)
words_of-start line i here =
    words_of-drop_blanks line ∙ ap (λ (n : ℕ). words_of_line (drop n line)) (position_or_len-is is_part line i here).0

pub words_of-blanks : (line : List ℕ) → position is_part line ≡ None → words_of_line line ≡ []
words_of-blanks line here =
    words_of-drop_blanks line ∙ ap words_of_line (drop_of_length-le line (no_position-length is_part line here))
    ∙ words_of-empty

pub words_of-past : (line : List ℕ) → position is_part line ≡ None
    → words_of_line (drop (length line) line) ≡ words_of_line line
words_of-past line here =
    ap words_of_line (drop_of_length-le line (omega arith)) ∙ words_of-empty ∙ sym (words_of-blanks line here)

-- a line with a word at its front has a first byte, which is no blank
front-first : (line : List ℕ) → position is_part line ≡ Some 0
    → (0 < length line) × (is_blank (get_or line 0 0) ≡ false)
front-first line front = let first = position-Some is_part line 0 0 front in (first.0, grind (arith, first.1))

-- so the word has bytes
front-has_bytes : (line : List ℕ) (i : ℕ) → position is_part line ≡ Some 0 → position is_blank line ≡ Some i
    → has_bytes (take i line) ≡ true
front-has_bytes line i front end =
    let first = front-first line front in
    let blank = position-Some is_blank line i 0 end in
    has_bytes-take i line (grind (arith, first.1, blank.1)) first.0

-- a word at the front ends at the first blank
pub words_of-cut : (line : List ℕ) (i : ℕ) → position is_part line ≡ Some 0 → position is_blank line ≡ Some i
    → words_of_line line ≡ take i line ∷ words_of_line (drop (i + 1) line)
unfolding words_of_line
words_of-cut line i front here =
    ap (filter has_bytes) (slice_split_position is_blank line i 0 here)
    ∙ ap (λ (b : Bool). cond b (take i line ∷ words_of_line (drop (i + 1) line)) (words_of_line (drop (i + 1) line)))
    (front-has_bytes line i front here)

-- or it is what is left
pub words_of-rest : (line : List ℕ) → position is_part line ≡ Some 0 → position is_blank line ≡ None
    → words_of_line line ≡ line ∷ []
unfolding words_of_line
words_of-rest line front here =
    ap (filter has_bytes) (slice_split_nowhere is_blank line here)
    ∙ ap (λ (b : Bool). cond b (line ∷ []) []) (has_bytes-line line (front-first line front).0)

position-now : (p : ℕ → Bool) (x : ℕ) (xs : List ℕ) → p x ≡ true → position p (x ∷ xs) ≡ Some 0
position-now p x xs passes = grind (arith, nat_tests)

-- where a part of a word comes first, it is at the front of what is left
pub position-start : (line : List ℕ) (i : ℕ) → position is_part line ≡ Some i → position is_part (drop i line) ≡ Some 0
position-start line i here =
    let first = position-Some is_part line i 0 here in
    ap (position is_part) (drop-cons line i 0 first.0)
    ∙ position-now is_part (get_or line i 0) (drop (suc i) line) first.1

-- so the rest of a line from there has no blank at its front
pub first-start : (line : List ℕ) (i : ℕ) → position is_part line ≡ Some i
    → is_blank (get_or (drop i line) 0 0) ≡ false
first-start line i here = (front-first (drop i line) (position-start line i here)).1

-- The same by how many bytes the word has.

front_part : (line : List ℕ) (count k : ℕ) → count ≤ length line → list_all is_part (take count line) ≡ true
    → k < count → is_part (get_or line k 0) ≡ true
front_part line count k within parts below =
    let here = AllPass-from_list_all is_part (take count line) parts k 0 (omega (arith, length-take count line)) in
    rw get_or-take at here

front_is_part : (line : List ℕ) (count : ℕ) → 1 ≤ count → count ≤ length line
    → list_all is_part (take count line) ≡ true → position is_part line ≡ Some 0
front_is_part line count some within parts =
    let first = front_part line count 0 within parts (omega arith) in
    let at = position_or_len_is is_part line 0 0 (omega arith) (λ k below. absurd (omega arith)) (λ _. first) in
    grind (arith, nat_tests)

-- a blank ends it
pub words_of-front : (line : List ℕ) (count : ℕ) → 1 ≤ count → count < length line
    → list_all is_part (take count line) ≡ true → is_blank (get_or line count 0) ≡ true
    → words_of_line line ≡ take count line ∷ words_of_line (drop (count + 1) line)
words_of-front line count some within parts blank =
    let at = position_or_len_is is_blank line count 0 (omega arith)
    (λ k below. let part = front_part line count k (omega arith) parts below in grind (arith, nat_tests))
    (λ _. blank) in
    words_of-cut line count (front_is_part line count some (omega arith) parts) (grind (arith, nat_tests))

-- or the line's end
pub words_of-whole : (line : List ℕ) (count : ℕ) → 1 ≤ count → count ≡ length line
    → list_all is_part (take count line) ≡ true → words_of_line line ≡ take count line ∷ words_of_line []
words_of-whole line count some whole parts =
    let at = position_or_len_is is_blank line count 0 (omega arith)
    (λ k below. let part = front_part line count k (omega arith) parts below in grind (arith, nat_tests))
    (λ within. absurd (omega arith)) in
    words_of-rest line (front_is_part line count some (omega arith) parts) (grind (arith, nat_tests))
    ∙ rw (words_of-empty, take_all count line (omega arith)) refl

pub ruleset cuts = (lines_of-cut, lines_of-rest, lines_of-empty, words_of-start)
