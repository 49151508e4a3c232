-- A text that begins with some lines, line by line.
use Rattle.trace_check.proofs.Words.{◌≡◌, ℕ, zero, suc, ◌+◌, ◌-◌, ◌<◌, List, [], ◌∷◌, ◌++◌, Some, None, ap, sym, ◌∙◌}
use Rattle.trace_check.proofs.Words.{arith, append_assoc, map, concat, concat-append, map-range_with_len_more, below}
use Rattle.trace_check.proofs.Words.{Lines, after_label, BeginsWith, Departs}
use Rattle.std.proofs.lemmas.List.{append-nil}
use Rattle.trace_check.proofs.Labels.{no_line}
use Rattle.trace_check.proofs.FromBelow.{label-takes as behind-line}

pub begins-more : (text rest line more : List ℕ) (lines : Lines) → BeginsWith text lines rest → rest ≡ line ++ more
    → BeginsWith text (lines ++ line ∷ []) more
begins-more text rest line more lines begins is =
    begins ∙ ap (λ (bytes : List ℕ). concat lines ++ bytes) is
    ∙ sym (append_assoc (concat lines) line more)
    ∙ ap (λ (bytes : List ℕ). bytes ++ more)
    (sym (concat-append lines (line ∷ []) ∙ ap (λ (bytes : List ℕ). concat lines ++ bytes) (append-nil line)))

-- by what is behind a line that was looked for
pub begins-behind : (text rest line more : List ℕ) (lines : Lines) → BeginsWith text lines rest
    → after_label line rest ≡ Some more → BeginsWith text (lines ++ line ∷ []) more
begins-behind text rest line more lines begins is =
    begins-more text rest line more lines begins (behind-line line rest more is)

pub departs-behind : (text rest due : List ℕ) (lines right others : Lines) → lines ≡ right ++ due ∷ others
    → BeginsWith text right rest → after_label due rest ≡ None → Departs text lines rest
departs-behind text rest due lines right others parts begins none = record {
  right = right;
  due = due;
  others = others;
  parts = parts;
  begins = begins;
  wrong = no_line due rest none;
}

-- The lines of the numbers below a number.

pub next-below : (f : ℕ → List ℕ) (k : ℕ) → map f (below (k + 1)) ≡ map f (below k) ++ f k ∷ []
next-below f k = map-range_with_len_more f 0 k k (omega arith)

more_below : (f : ℕ → List ℕ) (k m : ℕ)
    → (others : Lines) × (map f (below (k + 1 + m)) ≡ map f (below k) ++ f k ∷ others)
more_below f k zero = ([], ap (λ (n : ℕ). map f (below n)) (omega arith) ∙ next-below f k)
more_below f k (suc m) =
    let before = more_below f k m in
    let count : k + 1 + suc m ≡ k + 1 + m + 1 = omega arith in (
      before.0 ++ f (k + 1 + m) ∷ [],
      ap (λ (n : ℕ). map f (below n)) count ∙ next-below f (k + 1 + m)
          ∙ ap (λ (lines : Lines). lines ++ f (k + 1 + m) ∷ []) before.1
          ∙ append_assoc (map f (below k)) (f k ∷ before.0) (f (k + 1 + m) ∷ []),
    )

pub split-below : (f : ℕ → List ℕ) (k n : ℕ) → k < n
    → (others : Lines) × (map f (below n) ≡ map f (below k) ++ f k ∷ others)
split-below f k n less =
    let more = more_below f k (n - k - 1) in
    let count : n ≡ k + 1 + (n - k - 1) = omega arith in
    (more.0, ap (λ (m : ℕ). map f (below m)) count ∙ more.1)
