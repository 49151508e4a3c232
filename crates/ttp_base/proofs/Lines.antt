-- Lines, and the lines that bytes are cut into.
use Rattle.std.proofs.Common.{◌≡◌, ℕ, ◌==◌, Bool, true, false, cond, ◌||◌, List, [], ◌∷◌, ◌++◌, length, refl, ap, ◌∙◌}
use Rattle.std.proofs.Common.{arith}
use Rattle.std.specs.List.{concat, AllByRecursion}
use Rattle.ttp_base.specs.Text.{Lines, newline, is_line, before_lines, lines_of}
use Rattle.ttp_base.proofs.Numerals.{has}

-- a text without a line feed, before a line, makes a line
pub is_line-append : (x line : List ℕ) → has 10 x ≡ false → is_line line ≡ true → is_line (x ++ line) ≡ true
is_line-append [] line none is = is
is_line-append (b ∷ x) line none is = go (b == 10) none (λ rest. is_line-append x line rest is)
  where
    go : (feed : Bool) → (feed || has 10 x) ≡ false → (has 10 x ≡ false → is_line (x ++ line) ≡ true)
        → cond feed (length (x ++ line) == 0) (is_line (x ++ line)) ≡ true
    go true none more = absurd (cc)
    go false none more = more none

-- the lines of a line and more bytes
pub lines_of-line : (line more : List ℕ) → is_line line ≡ true → lines_of (line ++ more) ≡ line ∷ lines_of more
lines_of-line [] more is = absurd (cc)
lines_of-line (b ∷ line) more is = go (b == 10) refl is (lines_of-line line more)
  where
    ends : (rest : List ℕ) → b ≡ 10 → (length rest == 0) ≡ true
        → newline ∷ lines_of (rest ++ more) ≡ (b ∷ rest) ∷ lines_of more
    ends [] feed none = rw feed refl
    ends (c ∷ rest) feed none = absurd (grind arith)

    go : (feed : Bool) → (b == 10) ≡ feed → cond feed (length line == 0) (is_line line) ≡ true
        → (is_line line ≡ true → lines_of (line ++ more) ≡ line ∷ lines_of more)
        → cond feed (newline ∷ lines_of (line ++ more)) (before_lines b (lines_of (line ++ more)))
        ≡ (b ∷ line) ∷ lines_of more
    go true feed is after = ends line (grind arith) is
    go false feed is after = ap (before_lines b) (after is)

-- a text's bytes are cut into its lines again
pub lines_of-concat : (lines : Lines) → AllByRecursion (λ line. is_line line ≡ true) lines
    → lines_of (concat lines) ≡ lines
lines_of-concat [] are = refl
lines_of-concat (line ∷ lines) are =
    lines_of-line line (concat lines) are.0 ∙ ap (λ (rest : Lines). line ∷ rest) (lines_of-concat lines are.1)
