-- Counting one item more.
use Rattle.chart_text.proofs.Words.{◌≡◌, ℕ, ◌+◌, ◌<◌, Bool, true, false, cond, List, [], ◌∷◌, length, get_or}
use Rattle.chart_text.proofs.Words.{map, replicate, sym, ap, ◌∙◌, arith, ◌==◌, get_or-replicate, length-replicate}
use Rattle.chart_text.proofs.Words.{as_count, count_by-le-length, below}
use Rattle.std.specs.Prelude.{count_by}
use Rattle.std.proofs.lemmas.List.{ext_get_or}
use Rattle.std.proofs.lemmas.List.Sums.{sum_by-cons}
use Rattle.std.proofs.lemmas.List.FromFn.{length-map-range_with_len, get_or-map-range_with_len}
use Rattle.chart_text.specs.Sums.{counts_by}
use Rattle.chart_text.specs.Steps.{AreFaultsCounted}

pub counted-start : {X : Type 0} (number : X → ℕ) (k : ℕ) (all : List X)
    → AreFaultsCounted number (replicate k 0) all all
counted-start number k all i less =
    let inside : i < k = omega (arith, length-replicate {A = ℕ}) in
    omega (arith, get_or-replicate {A = ℕ} k i 0 0 inside)

-- all were counted
pub counted-all : {X : Type 0} (number : X → ℕ) (k : ℕ) (counts : List ℕ) (all : List X) → length counts ≡ k
    → AreFaultsCounted number counts [] all → counts ≡ counts_by number k all
counted-all number k counts all long counted =
    ext_get_or 0 counts (map (λ i. count_by (λ x. number x == i) all) (below k))
    (long ∙ sym (length-map-range_with_len (λ i. count_by (λ x. number x == i) all) 0 k))
    (λ i less.
    let inside : i < k = omega (arith, less, long) in
    let here : get_or counts i 0 ≡ count_by (λ x. number x == i) all = omega (arith, counted i less) in
    let zero_more : 0 + i ≡ i = omega arith in
    here
    ∙ sym (get_or-map-range_with_len (λ j. count_by (λ x. number x == j) all) 0 k i i 0 inside zero_more))

-- a count is no more than there are
pub counted-few : {X : Type 0} (number : X → ℕ) (counts : List ℕ) (left all : List X) (most : ℕ) → length all < most
    → AreFaultsCounted number counts left all → (i : ℕ) → i < length counts → get_or counts i 0 < most
counted-few number counts left all most few counted i less =
    omega (arith, counted i less, count_by-le-length (λ x. number x == i) all)

-- one was counted

count-moved : (is : Bool) (before after left all : ℕ) → after ≡ before
    + as_count is → before + (cond is 1 0 + left) ≡ all
    → after + left ≡ all
count-moved true before after left all more known = omega (arith, more, known)
count-moved false before after left all more known = omega (arith, more, known)

pub counted-next : {X : Type 0} (number : X → ℕ) (before after : List ℕ) (n : ℕ) (one : X) (left all : List X)
    → length after ≡ length before → n ≡ number one
    → ((i : ℕ) → i < length before → get_or after i 0 ≡ get_or before i 0 + as_count (n == i))
    → AreFaultsCounted number before (one ∷ left) all → AreFaultsCounted number after left all
counted-next number before after n one left all long is more counted i less =
    let inside : i < length before = omega (arith, less, long) in
    count-moved (number one == i) (get_or before i 0) (get_or after i 0) (count_by (λ x. number x == i) left)
    (count_by (λ x. number x == i) all)
    (more i inside ∙ ap (λ k. get_or before i 0 + as_count (k == i)) is)
    (ap (λ k. get_or before i 0 + k) (sym (sum_by-cons (λ x. cond (number x == i) 1 0) one left)) ∙ counted i inside)
