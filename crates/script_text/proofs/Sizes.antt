-- How many bytes lines and words take, each with the byte that ends it.
use Rattle.script_text.proofs.Terms.{◌≡◌, ℕ, ◌+◌, ◌*◌, ◌≤◌, Bool, true, false, cond, List, [], ◌∷◌, length, map, filter}
use Rattle.script_text.proofs.Terms.{Some, arith, refl, ap, lit≤, All, slice_split, common_steps, nat_tests}
use Rattle.script_text.proofs.Terms.{bytes_eq-Decides, Keyword, is_line_feed, is_blank, has_bytes, without_return}
use Rattle.script_text.proofs.Terms.{without_empty_end, lines_of_file, words_of_line, word_at, is_text, keyword_of}
use Rattle.script_text.proofs.Terms.{is_spelled, is_event_form}
use Rattle.std.proofs.Common.{codes}
use Rattle.std.specs.List.{onto_first}
use Rattle.std.proofs.Math.Nat.{le_refl}
use Rattle.std.proofs.lemmas.List.Elements.{filter_passes, All-head, All-tail}
use Rattle.script_text.specs.declared.keyword.Keyword.TheVariants as keyword

-- a line of this form says what a host does
abbrev pub is_host_form : Keyword → Bool
is_host_form keyword.Write = true
is_host_form keyword.Read = true
is_host_form form = false

-- the bytes of a line or a word, with the one that ends it
abbrev pub with_end : List ℕ → ℕ
with_end piece = length piece + 1

-- the bytes of all, with their ends
abbrev pub size_of : List (List ℕ) → ℕ
size_of [] = 0
size_of (piece ∷ pieces) = with_end piece + size_of pieces

size-onto_first : (x : ℕ) (pieces : List (List ℕ)) (n : ℕ) → size_of pieces ≡ n + 1
    → size_of (onto_first x pieces) ≡ n + 2
size-onto_first x [] n whole = absurd (omega arith)
size-onto_first x (piece ∷ pieces) n whole = omega arith

size-cond : (b : Bool) (x : ℕ) (pieces : List (List ℕ)) (n : ℕ) → size_of pieces ≡ n + 1
    → size_of (cond b ([] ∷ pieces) (onto_first x pieces)) ≡ n + 2
size-cond true x pieces n whole = omega arith
size-cond false x pieces n whole = size-onto_first x pieces n whole

-- what stands between separators has the bytes of the whole
size-slice_split : (p : ℕ → Bool) (xs : List ℕ) → size_of (slice_split p xs) ≡ length xs + 1
size-slice_split p [] = refl
size-slice_split p (x ∷ xs) =
    omega (arith, size-cond (p x) x (slice_split p xs) (length xs) (size-slice_split p xs))

-- Lines.

length-without_return : (line : List ℕ) → length (without_return line) ≤ length line
length-without_return line = grind (arith, common_steps)

size-without_return : (lines : List (List ℕ)) → size_of (map without_return lines) ≤ size_of lines
size-without_return [] = lit≤ tt
size-without_return (line ∷ lines) = omega (arith, size-without_return lines, length-without_return line)

size-without_empty_end : (lines : List (List ℕ)) → size_of (without_empty_end lines) ≤ size_of lines
size-without_empty_end [] = lit≤ tt
size-without_empty_end ([] ∷ []) = lit≤ tt
size-without_empty_end ((x ∷ xs) ∷ []) = le_refl _
size-without_empty_end (line ∷ next ∷ lines) = omega (arith, size-without_empty_end (next ∷ lines))

-- the last line may lack the byte that ends it
pub size-lines_of : (text : List ℕ) → size_of (lines_of_file text) ≤ length text + 1
unfolding lines_of_file
size-lines_of text = omega (
  arith,
  size-without_empty_end (map without_return (slice_split is_line_feed text)),
  size-without_return (slice_split is_line_feed text),
  size-slice_split is_line_feed text,
)

-- Words.

size-filter-cond : (b : Bool) (piece : List ℕ) (kept : List (List ℕ)) (size : ℕ) → size_of kept ≤ size
    → size_of (cond b (piece ∷ kept) kept) ≤ with_end piece + size
size-filter-cond true piece kept size less = omega arith
size-filter-cond false piece kept size less = omega arith

size-filter : (p : List ℕ → Bool) (pieces : List (List ℕ)) → size_of (filter p pieces) ≤ size_of pieces
size-filter p [] = lit≤ tt
size-filter p (piece ∷ pieces) =
    size-filter-cond (p piece) piece (filter p pieces) (size_of pieces) (size-filter p pieces)

size-words_of : (line : List ℕ) → size_of (words_of_line line) ≤ length line + 1
unfolding words_of_line
size-words_of line = omega (arith, size-filter has_bytes (slice_split is_blank line), size-slice_split is_blank line)

abbrev HasBytes : List ℕ → Type 0
HasBytes word = has_bytes word ≡ true

all-have_bytes : (line : List ℕ) → All HasBytes (words_of_line line)
unfolding words_of_line
all-have_bytes line = filter_passes has_bytes (slice_split is_blank line)

has_bytes-length : (word : List ℕ) → has_bytes word ≡ true → 1 ≤ length word
has_bytes-length [] has = cc
has_bytes-length (x ∷ xs) has = omega arith

-- each word has a byte, and one more that ends it
size-two_each : (words : List (List ℕ)) → All HasBytes words → 2 * length words ≤ size_of words
size-two_each [] has = lit≤ tt
size-two_each (word ∷ words) has =
    omega (
      arith,
      has_bytes-length word (All-head HasBytes word words has),
      size-two_each words (All-tail HasBytes word words has),
    )

-- Lines that say what happens in slots.

length-is_text : (text word : List ℕ) → is_text text word ≡ true → length word ≡ length text
length-is_text text word same = ap length ((bytes_eq-Decides word text).0 same)

-- the first word of such a line has three bytes and more
length-keyword : (word : List ℕ) (form : Keyword) → keyword_of word ≡ Some form → is_event_form form ≡ true
    → 3 ≤ length word
length-keyword word form names of_event = grind (
  arith,
  common_steps,
  length-is_text (codes "send") word,
  length-is_text (codes "receive") word,
  length-is_text (codes "flip") word,
  length-is_text (codes "error") word,
  length-is_text (codes "jump") word,
  length-is_text (codes "arm") word,
  length-is_text (codes "write") word,
  length-is_text (codes "read") word,
)

-- and the line has three words and more
count-words : (words : List (List ℕ)) (form : Keyword) → is_event_form form ≡ true → is_spelled form words ≡ true
    → 3 ≤ length words
count-words words form of_event spelled = grind (arith, common_steps, nat_tests)

size-event_words : (words : List (List ℕ)) (form : Keyword) → All HasBytes words
    → keyword_of (word_at words 0) ≡ Some form → is_event_form form ≡ true → is_spelled form words ≡ true
    → 8 ≤ size_of words
size-event_words [] form has names of_event spelled = absurd (omega (arith, count-words [] form of_event spelled))
size-event_words (word ∷ words) form has names of_event spelled = omega (
  arith,
  length-keyword word form names of_event,
  count-words (word ∷ words) form of_event spelled,
  size-two_each words (All-tail HasBytes word words has),
)

-- so it takes eight bytes and more with the one that ends it, as `arm 0 0` does
pub size-event_line : (line : List ℕ) (form : Keyword) → keyword_of (word_at (words_of_line line) 0) ≡ Some form
    → is_event_form form ≡ true → is_spelled form (words_of_line line) ≡ true
    → 8 ≤ with_end line
size-event_line line form names of_event spelled =
    omega (
      arith,
      size-event_words (words_of_line line) form (all-have_bytes line) names of_event spelled,
      size-words_of line,
    )

-- Lines by which hosts write and read.

-- they have four words, of which the first has four bytes and more
length-host_keyword : (word : List ℕ) (form : Keyword) → keyword_of word ≡ Some form → is_host_form form ≡ true
    → 4 ≤ length word
length-host_keyword word form names of_host = grind (
  arith,
  common_steps,
  length-is_text (codes "write") word,
  length-is_text (codes "read") word,
)

count-host_words : (words : List (List ℕ)) (form : Keyword) → is_host_form form ≡ true → is_spelled form words ≡ true
    → 4 ≤ length words
count-host_words words form of_host spelled = grind (arith, common_steps, nat_tests)

size-host_words : (words : List (List ℕ)) (form : Keyword) → All HasBytes words
    → keyword_of (word_at words 0) ≡ Some form → is_host_form form ≡ true → is_spelled form words ≡ true
    → 11 ≤ size_of words
size-host_words [] form has names of_host spelled = absurd (omega (arith, count-host_words [] form of_host spelled))
size-host_words (word ∷ words) form has names of_host spelled = omega (
  arith,
  length-host_keyword word form names of_host,
  count-host_words (word ∷ words) form of_host spelled,
  size-two_each words (All-tail HasBytes word words has),
)

-- the lines of hosts take eleven bytes and more with the one that ends them, as `read 0 0 1` does
pub size-host_line : (line : List ℕ) (form : Keyword) → keyword_of (word_at (words_of_line line) 0) ≡ Some form
    → is_host_form form ≡ true → is_spelled form (words_of_line line) ≡ true
    → 11 ≤ with_end line
size-host_line line form names of_host spelled =
    omega (
      arith,
      size-host_words (words_of_line line) form (all-have_bytes line) names of_host spelled,
      size-words_of line,
    )
