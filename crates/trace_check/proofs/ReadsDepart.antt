-- Where a text departs from the line of a read, it does so for each number that is legal there.
use Rattle.trace_check.proofs.Words.{◌≡◌, ℕ, suc, ◌<◌, ◌≤◌, ◌^◌, Bool, true, List, [], ◌∷◌, ◌++◌, length, Some, refl}
use Rattle.trace_check.proofs.Words.{ap, sym, ◌∙◌, arith, append_assoc, map, reverse, slice_get, AllByRecursion}
use Rattle.trace_check.proofs.Words.{list_all, and_parts, same_Some, Lines, HostRead, Medl, Chosen, Script, History}
use Rattle.trace_check.proofs.Words.{ReadMessage, is_legal_read, is_not_older, never_fall, read_messages, read_line}
use Rattle.trace_check.proofs.Words.{words_of, MayRead, row_after}
use Rattle.std.proofs.lemmas.List.{reverse-append}
use Rattle.std.proofs.lemmas.List.Folds.{list_all-append}
use Rattle.ttp_world.specs.TraceNumbers.{number_named, word_in}
use Rattle.ttp_world.proofs.LineWords.{read_line-words}
use Rattle.ttp_world.proofs.NumberWords.{number_named-decimal}
use Rattle.ttp_world.proofs.LegalShapes.{never_fall-older as falls-next}

-- The newest messages for the reads that are left.

unfoldable pub newest_rest : (HostRead → ℕ) → List HostRead → List ℕ → List ℕ
newest_rest most reads [] = map most reads
newest_rest most [] (number ∷ numbers) = []
newest_rest most (read ∷ reads) (number ∷ numbers) = number ∷ newest_rest most reads numbers

pub length-rest : (most : HostRead → ℕ) (reads : List HostRead) (numbers : List ℕ)
    → length (map most reads) ≡ length reads → length (newest_rest most reads numbers) ≡ length reads
unfolding newest_rest
length-rest most reads [] same = same
length-rest most [] (number ∷ numbers) same = refl
length-rest most (read ∷ reads) (number ∷ numbers) same = ap suc (length-rest most reads numbers (omega (arith, same)))

pub messages-rest : (most : HostRead → ℕ) (reads : List HostRead) (numbers : List ℕ) → length numbers ≤ length reads
    → (others : List ReadMessage)
    × (read_messages reads (newest_rest most reads numbers) ≡ read_messages reads numbers ++ others)
unfolding newest_rest
messages-rest most [] [] few = ([], refl)
messages-rest most (read ∷ reads) [] few = (read_messages (read ∷ reads) (map most (read ∷ reads)), refl)
messages-rest most [] (number ∷ numbers) few = absurd (omega (arith, few))
messages-rest most (read ∷ reads) (number ∷ numbers) few =
    let rest = messages-rest most reads numbers (omega (arith, few)) in
    (rest.0, ap (λ (rs : List ReadMessage). (record { read = read; number = number }) ∷ rs) rest.1)

-- Lines of reads tell their numbers.

pub same_number : (list : Medl) (script : Script) (slot : ℕ) (after : History) (read : HostRead) (i j : ℕ)
    → i < 2 ^ 64 → j < 2 ^ 64
    → read_line list script slot after (record { read = read; number = i })
    ≡ read_line list script slot after (record { read = read; number = j }) → i ≡ j
same_number list script slot after read i j small small_too same =
    let one = (read_line-words list script slot after (record { read = read; number = i })).1 in
    let two = (read_line-words list script slot after (record { read = read; number = j })).1 in
    same_Some i j
    (sym (number_named-decimal i small) ∙ ap number_named (sym one)
    ∙ ap (λ (line : List ℕ). number_named (word_in (words_of line) 6)) same
    ∙ ap number_named two ∙ number_named-decimal j small_too)

-- the first reads of one, and the next one
pub record HasNext (reads : List HostRead) (first others : List ℕ) : Type 0 where
  pub read : HostRead
  pub number : ℕ
  pub later : List ReadMessage
  pub at : slice_get reads (length first) ≡ Some read
  pub messages : read_messages reads others
      ≡ read_messages reads first ++ (record { read = read; number = number }) ∷ later

pub has-next : (list : Medl) (script : Script) (slot : ℕ) (after : History) (reads : List HostRead)
    (first others : List ℕ) (more : Lines)
    → length first < length reads → length others ≡ length reads → AllByRecursion (λ i. i < 2 ^ 64) first
    → AllByRecursion (λ i. i < 2 ^ 64) others
    → map (read_line list script slot after) (read_messages reads others)
    ≡ map (read_line list script slot after) (read_messages reads first) ++ more
    → HasNext reads first others
has-next list script slot after [] first others more few count small small_too same = absurd (omega (arith, few))
has-next list script slot after (read ∷ reads) [] [] more few count small small_too same =
    absurd (omega (arith, count))
has-next list script slot after (read ∷ reads) [] (o ∷ others) more few count small small_too same = record {
  read = read;
  number = o;
  later = read_messages reads others;
  at = refl;
  messages = refl;
}
has-next list script slot after (read ∷ reads) (m ∷ first) [] more few count small small_too same =
    absurd (omega (arith, count))
has-next list script slot after (read ∷ reads) (m ∷ first) (o ∷ others) more few count small small_too same =
    let line = λ (i : ℕ). read_line list script slot after (record { read = read; number = i }) in
    let heads : line o ≡ line m = cc in
    let tails : map (read_line list script slot after) (read_messages reads others)
    ≡ map (read_line list script slot after) (read_messages reads first) ++ more = cc in
    let number = same_number list script slot after read o m small_too.0 small.0 heads in
    let next = has-next list script slot after reads first others more (omega (arith, few)) (omega (arith, count))
    small.1 small_too.1 tails in
    record {
      read = next.read;
      number = next.number;
      later = next.later;
      at = next.at;
      messages = λ i. (record { read = read; number = number i }) ∷ next.messages i;
    }

-- That read is legal after those before it.

middle : {X : Type 0} (p : X → Bool) (xs : List X) (x : X) (ys : List X) → list_all p (xs ++ x ∷ ys) ≡ true → p x ≡ true
middle p [] x ys all = (and_parts (p x) (list_all p ys) all).0
middle p (y ∷ xs) x ys all = middle p xs x ys (and_parts (p y) (list_all p (xs ++ x ∷ ys)) all).1

pub may-next : (list : Medl) (script : Script) (history : History) (chosen : List Chosen) (rs : List ReadMessage)
    (r : ReadMessage) (later older : List ReadMessage)
    → list_all (is_legal_read list script history (row_after list script history chosen ∷ history)) (rs ++ r ∷ later)
    ≡ true
    → never_fall (reverse (rs ++ r ∷ later) ++ older) ≡ true → MayRead list script history chosen (reverse rs) r
may-next list script history chosen rs r later older legal falls =
    let test = is_legal_read list script history (row_after list script history chosen ∷ history) in
    let back : reverse (rs ++ r ∷ later) ++ older ≡ reverse later ++ (r ∷ (reverse rs ++ older)) =
    ap (λ (b : List ReadMessage). b ++ older)
    (ap reverse (sym (append_assoc rs (r ∷ []) later)) ∙ reverse-append (rs ++ r ∷ []) later
    ∙ ap (λ (b : List ReadMessage). reverse later ++ b) (reverse-append rs (r ∷ [])))
    ∙ append_assoc (reverse later) (r ∷ reverse rs) older in
    let here = falls-next (reverse later) (r ∷ (reverse rs ++ older)) (ap never_fall (sym back) ∙ falls) in
    let all = (and_parts (list_all (is_not_older r) (reverse rs ++ older)) (never_fall (reverse rs ++ older)) here).0 in
    record {
      between = middle test rs r later legal;
      not_older =
          (and_parts (list_all (is_not_older r) (reverse rs)) (list_all (is_not_older r) older)
          (sym (list_all-append (is_not_older r) (reverse rs) older) ∙ all)).0;
    }

pub small-first : (most : HostRead → ℕ) (reads : List HostRead) (numbers : List ℕ) → length numbers ≤ length reads
    → AllByRecursion (λ i. i < 2 ^ 64) (newest_rest most reads numbers) → AllByRecursion (λ i. i < 2 ^ 64) numbers
unfolding newest_rest
small-first most reads [] few all = tt
small-first most [] (number ∷ numbers) few all = absurd (omega (arith, few))
small-first most (read ∷ reads) (number ∷ numbers) few all =
    (all.0, small-first most reads numbers (omega (arith, few)) all.1)

pub count-first : (reads : List HostRead) (numbers : List ℕ) → length numbers ≤ length reads
    → length (read_messages reads numbers) ≡ length numbers
count-first [] [] few = refl
count-first (read ∷ reads) [] few = refl
count-first [] (number ∷ numbers) few = absurd (omega (arith, few))
count-first (read ∷ reads) (number ∷ numbers) few = ap suc (count-first reads numbers (omega (arith, few)))
