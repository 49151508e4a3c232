-- Where lines begin: which of them a byte is behind, and how far.
use Rattle.std.proofs.Common.{◌≡◌, ℕ, zero, suc, ◌+◌, ◌-◌, ◌<◌, ◌≤◌, Bool, true, false, not, cond, ◌==◌}
use Rattle.std.proofs.Common.{leb, List, [], ◌∷◌, ◌++◌, length, take, get_or, refl, sym, ap, ◌∙◌, arith}
use Rattle.std.proofs.lemmas.Grind.{common_steps}
use Rattle.std.proofs.lemmas.Bool.Decides.{nat_tests}
use Rattle.std.proofs.lemmas.List.Sums.{sum_by-cons, suffix_len-take_yes, suffix_len-take_no}
use Rattle.std.proofs.lemmas.List.{take_more}
use Rattle.std.specs.List.{prefix_len, suffix_len, count_by}
use Rattle.std.specs.List.Sorted.{IsNonDecreasingBy}
use Rattle.toml_parser.specs.Lexical.{line_feed}
use Rattle.list_places.specs.Lines.{starts_from}
use Rattle.list_places.specs.Places.{line_and_column}

-- how many of the first starts are at most this byte
abbrev pub up_to : ℕ → List ℕ → ℕ
up_to at starts = prefix_len (λ s. leb s at) starts

abbrev pub is_feed : ℕ → Bool
is_feed b = b == line_feed

low_step : (c : Bool) (base at : ℕ) (rest : List ℕ) → at ≤ base → up_to at rest ≡ 0
    → up_to at (cond c ((base + 1) ∷ rest) rest) ≡ 0
low_step true base at rest low none =
    let no : leb (base + 1) at ≡ false = grind (arith, nat_tests) in
    rw no
low_step false base at rest low none = none

-- no line of a rest begins at a byte before it
starts_low : (base at : ℕ) (text : List ℕ) → at ≤ base → up_to at (starts_from base text) ≡ 0
starts_low base at [] low = refl
starts_low base at (b ∷ bs) low =
    low_step (b == line_feed) base at (starts_from (base + 1) bs) low (starts_low (base + 1) at bs (omega arith))

count_step : (c : Bool) (base at : ℕ) (rest : List ℕ) → base + 1 ≤ at
    → up_to at (cond c ((base + 1) ∷ rest) rest) ≡ cond c 1 0 + up_to at rest
count_step true base at rest up =
    let yes : leb (base + 1) at ≡ true = grind (arith, nat_tests) in
    rw yes
count_step false base at rest up = omega arith

-- so many lines begin behind the first byte, up to this one
pub starts_count : (n base at : ℕ) (text : List ℕ) → base + n ≡ at
    → up_to at (starts_from base text) ≡ count_by is_feed (take n text)
starts_count zero base at text is = starts_low base at text (omega arith)
starts_count (suc n) base at [] is = refl
starts_count (suc n) base at (b ∷ bs) is =
    let more : up_to at (starts_from (base + 1) bs) ≡ count_by is_feed (take n bs) =
    starts_count n (base + 1) at bs (omega arith) in
    count_step (b == line_feed) base at (starts_from (base + 1) bs) (omega arith)
    ∙ ap (λ k. cond (b == line_feed) 1 0 + k) more
    ∙ sym (sum_by-cons (λ x. cond (is_feed x) 1 0) b (take n bs))

-- how far the end of bytes is behind the last line feed, or behind what is so far before them
abbrev run : ℕ → List ℕ → ℕ
run far [] = far
run far (b ∷ bs) = cond (b == line_feed) (run 0 bs) (run (far + 1) bs)

push_step : (c z : Bool) (here there now next : ℕ) → here ≡ cond z 0 (now + 1) → there ≡ cond z 0 (next + 1)
    → cond c here there ≡ cond z 0 (cond c now next + 1)
push_step true z here there now next h t = h
push_step false z here there now next h t = t

run_push : (far : ℕ) (xs : List ℕ) (b : ℕ) → run far (xs ++ b ∷ []) ≡ cond (b == line_feed) 0 (run far xs + 1)
run_push far [] b = refl
run_push far (x ∷ xs) b =
    push_step (x == line_feed) (b == line_feed) _ _ _ _ (run_push 0 xs b) (run_push (far + 1) xs b)

tail_step : (c : Bool) (n : ℕ) (xs : List ℕ) → n < length xs → (get_or xs n 0 == line_feed) ≡ c
    → cond c 0 (suffix_len (λ b. not (is_feed b)) (take n xs) + 1) ≡ suffix_len (λ b. not (is_feed b)) (take (n + 1) xs)
tail_step true n xs low is =
    let back : n + 1 - 1 ≡ n = omega arith in
    let other : not (is_feed (get_or xs (n + 1 - 1) 0)) ≡ false = rw back (ap not is) in
    sym (suffix_len-take_no (λ b. not (is_feed b)) xs (n + 1) 0 (omega arith) (omega arith) other)
tail_step false n xs low is =
    let back : n + 1 - 1 ≡ n = omega arith in
    let other : not (is_feed (get_or xs (n + 1 - 1) 0)) ≡ true = rw back (ap not is) in
    let more : suffix_len (λ b. not (is_feed b)) (take (n + 1) xs) ≡ 1
    + suffix_len (λ b. not (is_feed b)) (take (n + 1 - 1) xs) =
    suffix_len-take_yes (λ b. not (is_feed b)) xs (n + 1) 0 (omega arith) (omega arith) other in
    let less = rw back at more in
    omega (arith, less)

-- how far a byte is behind the last line feed before it
pub run_take : (n : ℕ) (xs : List ℕ) → n ≤ length xs → run 0 (take n xs) ≡ suffix_len (λ b. not (is_feed b)) (take n xs)
run_take zero xs low = refl
run_take (suc n) xs low =
    let one : suc n ≡ n + 1 = omega arith in
    let whole : take (n + 1) xs ≡ take n xs ++ get_or xs n 0 ∷ [] = take_more xs n 0 (omega arith) in
    let pushed : run 0 (take (n + 1) xs) ≡ cond (get_or xs n 0 == line_feed) 0 (run 0 (take n xs) + 1) =
    rw whole (run_push 0 (take n xs) (get_or xs n 0)) in
    let before : run 0 (take n xs) ≡ suffix_len (λ b. not (is_feed b)) (take n xs) = run_take n xs (omega arith) in
    rw one (pushed ∙ ap (λ k. cond (get_or xs n 0 == line_feed) 0 (k + 1)) before
    ∙ tail_step (get_or xs n 0 == line_feed) n xs (omega arith) refl)

-- where the line begins that a byte stands in; the rest of the text is read from this byte on, in a line that began
-- there
abbrev pub begun : ℕ → ℕ → List ℕ → ℕ
begun began at starts = get_or (began ∷ starts) (up_to at starts) 0

begun_next : (began next : ℕ) (rest : List ℕ) (k : ℕ)
    → get_or (began ∷ next ∷ rest) (1 + k) 0 ≡ get_or (next ∷ rest) k 0
begun_next began next rest k = grind (arith, common_steps)

begun_step : (c : Bool) (base at began : ℕ) (rest : List ℕ) → base + 1 ≤ at
    → begun began at (cond c ((base + 1) ∷ rest) rest) ≡ begun (cond c (base + 1) began) at rest
begun_step true base at began rest up =
    let yes : leb (base + 1) at ≡ true = grind (arith, nat_tests) in
    rw yes (begun_next began (base + 1) rest (up_to at rest))
begun_step false base at began rest up = refl

far_step : (c : Bool) (base began : ℕ) (rest : List ℕ) → began ≤ base
    → run (base + 1 - cond c (base + 1) began) rest ≡ cond c (run 0 rest) (run (base - began + 1) rest)
far_step true base began rest low =
    let none : base + 1 - (base + 1) ≡ 0 = omega arith in
    rw none
far_step false base began rest low =
    let more : base + 1 - began ≡ base - began + 1 = omega arith in
    rw more

began_low : (c : Bool) (base began : ℕ) → began ≤ base → cond c (base + 1) began ≤ base + 1
began_low true base began low = omega arith
began_low false base began low = omega arith

-- how far a byte is behind the start of its line
pub begun_far : (n base at began : ℕ) (text : List ℕ) → base + n ≡ at → began ≤ base → n ≤ length text
    → at - begun began at (starts_from base text) ≡ run (base - began) (take n text)
begun_far zero base at began text is low within =
    let none : up_to at (starts_from base text) ≡ 0 = starts_low base at text (omega arith) in
    rw none (omega arith)
begun_far (suc n) base at began [] is low within = absurd (omega arith)
begun_far (suc n) base at began (b ∷ bs) is low within =
    let more = begun_far n (base + 1) at (cond (b == line_feed) (base + 1) began) bs (omega arith)
    (began_low (b == line_feed) base began low) (omega arith) in
    ap (λ k. at - k) (begun_step (b == line_feed) base at began (starts_from (base + 1) bs) (omega arith))
    ∙ more ∙ far_step (b == line_feed) base began (take n bs) low

above_step : (c : Bool) (base : ℕ) (rest : List ℕ) → ((j d : ℕ) → j < length rest → base + 1 ≤ get_or rest j d)
    → (j d : ℕ) → j < length (cond c ((base + 1) ∷ rest) rest) → base + 1 ≤ get_or (cond c ((base + 1) ∷ rest) rest) j d
above_step true base rest above zero d low = omega arith
above_step true base rest above (suc j) d low = above j d (omega arith)
above_step false base rest above j d low = above j d low

starts_above : (base : ℕ) (text : List ℕ) (j d : ℕ) → j < length (starts_from base text)
    → base + 1 ≤ get_or (starts_from base text) j d
starts_above base [] j d low = absurd (omega arith)
starts_above base (b ∷ bs) j d low =
    above_step (b == line_feed) base (starts_from (base + 1) bs)
    (λ k e within. let up = starts_above (base + 1) bs k e within in omega (arith, up)) j d low

rise_cons : (x : ℕ) (rest : List ℕ) → ((j d : ℕ) → j < length rest → x ≤ get_or rest j d)
    → IsNonDecreasingBy (λ s. s) rest → IsNonDecreasingBy (λ s. s) (x ∷ rest)
rise_cons x rest above rise zero zero d below low = omega arith
rise_cons x rest above rise zero (suc j) d below low = above j d (omega arith)
rise_cons x rest above rise (suc i) zero d below low = absurd (omega arith)
rise_cons x rest above rise (suc i) (suc j) d below low = rise i j d (omega arith) (omega arith)

rise_step : (c : Bool) (base : ℕ) (rest : List ℕ) → ((j d : ℕ) → j < length rest → base + 1 ≤ get_or rest j d)
    → IsNonDecreasingBy (λ s. s) rest → IsNonDecreasingBy (λ s. s) (cond c ((base + 1) ∷ rest) rest)
rise_step true base rest above rise = rise_cons (base + 1) rest above rise
rise_step false base rest above rise = rise

starts_rise : (base : ℕ) (text : List ℕ) → IsNonDecreasingBy (λ s. s) (starts_from base text)
starts_rise base [] = λ i j d below low. absurd (omega arith)
starts_rise base (b ∷ bs) =
    rise_step (b == line_feed) base (starts_from (base + 1) bs)
    (λ k e within. let up = starts_above (base + 1) bs k e within in omega (arith, up)) (starts_rise (base + 1) bs)

-- lines begin one behind the other
pub lines_rise : (text : List ℕ) → IsNonDecreasingBy (λ s. s) (0 ∷ starts_from 0 text)
lines_rise text = rise_cons 0 (starts_from 0 text) (λ j d low. omega arith) (starts_rise 0 text)

-- the place of a byte by the starts of the lines
pub place_is : (text : List ℕ) (at line start : ℕ) → at ≤ length text → up_to at (0 ∷ starts_from 0 text) ≡ line
    → start ≡ get_or (0 ∷ starts_from 0 text) (line - 1) 0
    → record { line = line; column = at - start + 1 } ≡ line_and_column text at
place_is text at line start within is start_is =
    let low : leb 0 at ≡ true = grind (arith, nat_tests) in
    let count : up_to at (starts_from 0 text) ≡ count_by is_feed (take at text) =
    starts_count at 0 at text (omega arith) in
    let first : 1 + up_to at (starts_from 0 text) ≡ line = rw low at is in
    let behind : line - 1 ≡ up_to at (starts_from 0 text) = omega arith in
    let begins : start ≡ begun 0 at (starts_from 0 text) = rw behind at start_is in
    let far : at - begun 0 at (starts_from 0 text) ≡ run 0 (take at text) =
    begun_far at 0 at 0 text (omega arith) (omega arith) within in
    let tail = run_take at text within in
    let lines : line ≡ 1 + count_by is_feed (take at text) = omega arith in
    let column : at - start + 1 ≡ 1 + suffix_len (λ b. not (is_feed b)) (take at text) =
    omega (arith, ap (λ s. at - s) begins, far, tail) in
    rw (lines, column)
