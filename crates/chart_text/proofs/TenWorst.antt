-- How many the ten worst faults are, and how long their lines.
use Rattle.chart_text.proofs.Words.{◌≡◌, ◌∙◌, ℕ, ◌+◌, ◌≤◌, Bool, true, false, cond}
use Rattle.chart_text.proofs.Words.{List, [], ◌∷◌, ◌++◌, length, take, drop}
use Rattle.chart_text.proofs.Words.{refl, sym, ap, not, arith, FaultTold, Size, does_harm}
use Rattle.chart_text.proofs.Words.{harmful_among, longest_text, ten_with, ten_worst}
use Rattle.std.proofs.Common.{zero, suc}
use Rattle.std.specs.Prelude.{fold, insert, min, max}
use Rattle.std.specs.List.{position_or_len}
use Rattle.std.proofs.lemmas.List.{length-take}
use Rattle.std.proofs.lemmas.List.Edits.{length-insert}
use Rattle.std.proofs.lemmas.List.Sums.{sum_by-cons}
use Rattle.chart_text.specs.Worst.{place_for}

place-within : (p : FaultTold → Bool) (xs : List FaultTold) → position_or_len p xs ≤ length xs
place-within p [] = omega arith
place-within p (x ∷ xs) = here (p x) (place-within p xs)
  where
    here : (b : Bool) → position_or_len p xs ≤ length xs → cond (not b) (1 + position_or_len p xs) 0 ≤ length (x ∷ xs)
    here true known = omega arith
    here false known = omega (arith, known)

-- How many.

taken : (worst : List FaultTold) (i : ℕ) (x : FaultTold) (n : ℕ) → i ≤ length worst
    → min (length (take 10 (insert worst i x)) + n) 10 ≡ min (length worst + (1 + n)) 10
taken worst i x n within = omega (arith, length-take 10 (insert worst i x), length-insert worst i x within)

count-cons : (size : Size) (x : FaultTold) (xs : List FaultTold) (b : Bool) → does_harm size x.shown ≡ b
    → harmful_among size (x ∷ xs) ≡ cond b 1 0 + harmful_among size xs
count-cons size x xs b is =
    sum_by-cons (λ f. cond (does_harm size f.shown) 1 0) x xs
    ∙ ap (λ (c : Bool). cond c 1 0 + harmful_among size xs) is

fold-length : (size : Size) (worst faults : List FaultTold) → length worst ≤ 10
    → length (fold (ten_with size) worst faults) ≡ min (length worst + harmful_among size faults) 10
fold-length size worst [] few = omega arith
fold-length size worst (x ∷ faults) few =
    let i = place_for size x.shown worst in
    step (does_harm size x.shown) refl
    (fold-length size (take 10 (insert worst i x)) faults (omega (arith, length-take 10 (insert worst i x))))
    (fold-length size worst faults few)
  where
    step : (b : Bool) → does_harm size x.shown ≡ b
        → length (fold (ten_with size) (take 10 (insert worst (place_for size x.shown worst) x)) faults)
        ≡ min (length (take 10 (insert worst (place_for size x.shown worst) x)) + harmful_among size faults) 10
        → length (fold (ten_with size) worst faults) ≡ min (length worst + harmful_among size faults) 10
        → length (fold (ten_with size) (cond b (take 10 (insert worst (place_for size x.shown worst) x)) worst) faults)
        ≡ min (length worst + harmful_among size (x ∷ faults)) 10
    step true is with_it without =
        with_it
        ∙ taken worst (place_for size x.shown worst) x (harmful_among size faults) (place-within _ worst)
        ∙ (λ j. min (length worst + sym (count-cons size x faults true is) j) 10)
    step false is with_it without = omega (arith, without, count-cons size x faults false is)

pub ten-length : (size : Size) (faults : List FaultTold)
    → length (ten_worst size faults) ≡ min (harmful_among size faults) 10
ten-length size faults = omega (arith, fold-length size [] faults (omega arith))

-- How long.

longest-append : (xs ys : List FaultTold) → longest_text (xs ++ ys) ≡ max (longest_text xs) (longest_text ys)
longest-append [] ys = omega arith
longest-append (x ∷ xs) ys = omega (arith, longest-append xs ys)

longest-take : (n : ℕ) (xs : List FaultTold) → longest_text (take n xs) ≤ longest_text xs
longest-take zero xs = omega arith
longest-take (suc n) [] = omega arith
longest-take (suc n) (x ∷ xs) = omega (arith, longest-take n xs)

longest-drop : (n : ℕ) (xs : List FaultTold) → longest_text (drop n xs) ≤ longest_text xs
longest-drop zero xs = omega arith
longest-drop (suc n) [] = omega arith
longest-drop (suc n) (x ∷ xs) = omega (arith, longest-drop n xs)

with-longest : (worst : List FaultTold) (i : ℕ) (x : FaultTold)
    → longest_text (take 10 (insert worst i x)) ≤ max (longest_text worst) (length x.text)
with-longest worst i x =
    omega (
      arith,
      longest-take 10 (insert worst i x),
      longest-append (take i worst) (x ∷ drop i worst),
      longest-take i worst,
      longest-drop i worst,
    )

fold-longest : (size : Size) (worst faults : List FaultTold)
    → longest_text (fold (ten_with size) worst faults) ≤ max (longest_text worst) (longest_text faults)
fold-longest size worst [] = omega arith
fold-longest size worst (x ∷ faults) =
    step (does_harm size x.shown) (fold-longest size (take 10 (insert worst (place_for size x.shown worst) x)) faults)
    (fold-longest size worst faults)
  where
    step : (b : Bool)
        → longest_text (fold (ten_with size) (take 10 (insert worst (place_for size x.shown worst) x)) faults)
        ≤ max (longest_text (take 10 (insert worst (place_for size x.shown worst) x))) (longest_text faults)
        → longest_text (fold (ten_with size) worst faults) ≤ max (longest_text worst) (longest_text faults)
        → longest_text (fold (ten_with size)
        (cond b (take 10 (insert worst (place_for size x.shown worst) x)) worst) faults)
        ≤ max (longest_text worst) (longest_text (x ∷ faults))
    step true with_it without = omega (arith, with_it, with-longest worst (place_for size x.shown worst) x)
    step false with_it without = omega (arith, without)

pub ten-longest : (size : Size) (faults : List FaultTold) → longest_text (ten_worst size faults) ≤ longest_text faults
ten-longest size faults = omega (arith, fold-longest size [] faults)
