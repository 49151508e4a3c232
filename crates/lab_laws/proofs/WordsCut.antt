-- Words are cut again where they were put together.
use Rattle.lab_laws.proofs.Words.{◌≡◌, ℕ, suc, ◌+◌, ◌-◌, true, false, List, [], ◌∷◌, ◌++◌, length, Option, Some}
use Rattle.lab_laws.proofs.Words.{refl, ap, ◌∙◌, arith, codes, append_assoc, ◌==◌, nat_le, nat_lt, eq-eqb}
use Rattle.lab_laws.proofs.Words.{lt-ltb, or_parts, nat_tests, newline, has, label-again, ◌>>=◌, unended}
use Rattle.lab_laws.proofs.Words.{without_feed, word_behind, run_words_in}
use Rattle.std.proofs.Common.{length-append, option_map}
use Rattle.std.specs.List.{position_or_len}
use Rattle.std.proofs.lemmas.List.{take_at, drop_at}
use Rattle.line_form.specs.Forms.{LineForm, Values, spelled, fit, well}
use Rattle.lab_laws.proofs.FromBelow.{read_again}
use Rattle.whole_campaign.specs.Words.{line_said, cut_after, length_before, length_of_words, words_behind}

-- The line feed.

pub feed-again : (x : List ℕ) → (without_feed (x ++ newline) ≡ Some x) × (unended (x ++ newline) ≡ x)
unfolding without_feed
feed-again x =
    let front : length (x ++ newline) - 1 ≡ length x = omega (arith, length-append x newline) in (
      rw (front, drop_at x newline (length x) refl, take_at x newline (length x) refl) refl,
      rw front (take_at x newline (length x) refl),
    )

-- Lines with a form.

-- the text of values that fit is read as what they say
pub said-again : {A : Type 0} (form : LineForm) (said : Values form → A) (vs : Values form) → well form ≡ true
    → fit form vs ≡ true → line_said form said (spelled form vs) ≡ Some (said vs)
unfolding line_said
said-again form said vs is fits = ap (option_map said) (read_again form vs is fits)

-- One word.

stop_at : (stop : ℕ) (word rest : List ℕ) → has stop word ≡ false
    → position_or_len (λ b. b == stop) (word ++ stop ∷ rest) ≡ length word
stop_at stop [] rest none = let here : (stop == stop) ≡ true = eq-eqb stop stop refl in rw here refl
stop_at stop (b ∷ word) rest none =
    let parts = or_parts (b == stop) (has stop word) none in
    let more = stop_at stop word rest parts.1 in
    rw parts.0 (omega (arith, more))

length-before : (stop : ℕ) (word rest : List ℕ) → has stop word ≡ false
    → length_before stop (word ++ stop ∷ rest) ≡ length word
length-before stop word rest none =
    let at = stop_at stop word rest none in
    let less : nat_lt (position_or_len (λ b. b == stop) (word ++ stop ∷ rest)) (length (word ++ stop ∷ rest)) ≡ true =
    lt-ltb (position_or_len (λ b. b == stop) (word ++ stop ∷ rest)) (length (word ++ stop ∷ rest))
    (omega (arith, at, length-append word (stop ∷ rest))) in
    rw less at

-- a word between a label and a byte that it does not have
pub word-behind : (stop : ℕ) (label word rest : List ℕ) → has stop word ≡ false
    → word_behind stop label (label ++ (word ++ stop ∷ rest)) ≡ Some (record { front = word; rest = stop ∷ rest })
unfolding word_behind
word-behind stop label word rest none =
    ap (λ (r : Option (List ℕ)). r >>= λ x. Some (cut_after (length_before stop x) x))
    (label-again label (word ++ stop ∷ rest))
    ∙ ap (λ (n : ℕ). Some (cut_after n (word ++ stop ∷ rest))) (length-before stop word rest none)
    ∙ (λ i. Some (record {
      front = take_at word (stop ∷ rest) (length word) refl i;
      rest = drop_at word (stop ∷ rest) (length word) refl i;
    }))

-- Several words.

-- a text is so many words, with spaces between them
abbrev pub IsOfWords : ℕ → List ℕ → Type 0
IsOfWords n text = (rest : List ℕ) → length_of_words n (text ++ 32 ∷ rest) ≡ length text

words-over : (n : ℕ) (word rest : List ℕ) → has 32 word ≡ false
    → length_of_words n (word ++ rest) ≡ length word + length_of_words n rest
unfolding length_of_words
words-over n [] rest none = omega arith
words-over n (b ∷ word) rest none =
    let parts = or_parts (b == 32) (has 32 word) none in
    let more = words-over n word rest parts.1 in
    rw parts.0 (omega (arith, more))

words-end : (rest : List ℕ) → length_of_words 1 (32 ∷ rest) ≡ 0
unfolding length_of_words
words-end rest = refl

words-next : (n : ℕ) (rest : List ℕ) → length_of_words (suc (suc n)) (32 ∷ rest) ≡ length_of_words (suc n) rest + 1
unfolding length_of_words
words-next n rest =
    let more : nat_le (suc (suc n)) 1 ≡ false = grind (arith, nat_tests) in
    let less : suc (suc n) - 1 ≡ suc n = omega arith in
    rw (more, less) refl

pub one-word : (word : List ℕ) → has 32 word ≡ false → IsOfWords 1 word
one-word word none rest = omega (arith, words-over 1 word (32 ∷ rest) none, words-end rest)

pub more-words : (n : ℕ) (word text : List ℕ) → has 32 word ≡ false → IsOfWords (suc n) text
    → IsOfWords (suc (suc n)) (word ++ 32 ∷ text)
more-words n word text none are rest =
    ap (length_of_words (suc (suc n))) (append_assoc word (32 ∷ text) (32 ∷ rest))
    ∙ omega (
      arith,
      words-over (suc (suc n)) word (32 ∷ (text ++ 32 ∷ rest)) none,
      words-next n (text ++ 32 ∷ rest),
      are rest,
      length-append word (32 ∷ text),
    )

words-behind : (n : ℕ) (text rest : List ℕ) → IsOfWords n text
    → words_behind n (32 ∷ (text ++ 32 ∷ rest)) ≡ Some (record { front = text; rest = 32 ∷ rest })
unfolding words_behind
words-behind n text rest are =
    ap (λ (m : ℕ). Some (cut_after m (text ++ 32 ∷ rest))) (are rest)
    ∙ (λ i. Some (record {
      front = take_at text (32 ∷ rest) (length text) refl i;
      rest = drop_at text (32 ∷ rest) (length text) refl i;
    }))

-- the words of a run
pub run-again : (test cost fault : List ℕ) → IsOfWords 4 test → IsOfWords 9 cost
    → run_words_in (codes " " ++ (test ++ (codes " " ++ (cost ++ (codes " fault " ++ fault)))))
    ≡ Some (record { test = test; cost = cost; fault = fault })
unfolding run_words_in
run-again test cost fault tested costs =
    rw (
      words-behind 4 test (cost ++ (codes " fault " ++ fault)) tested,
      words-behind 9 cost (codes "fault " ++ fault) costs,
    ) refl
