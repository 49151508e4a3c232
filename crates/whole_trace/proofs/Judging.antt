-- What is judged of lines, by the first of them.
use Rattle.std.proofs.Common.{◌≡◌, ℕ, ◌+◌, List, [], ◌∷◌, length, Option, Some, None, refl, ap, ◌∙◌, arith}
use Rattle.std.specs.Prelude.{Result, Ok, Err}
use Rattle.ttp_base.specs.Text.{Lines, lines_of}
use Rattle.whole_trace.specs.declared.due.Due.{Due}
use Rattle.whole_trace.specs.declared.due.Outline.{Outline}
use Rattle.whole_trace.specs.Due.{ending}
use Rattle.whole_trace.specs.Whole.{due_behind, one_line_later, or_missing, judged_behind, judged}

pub judged-wrong : (due : Due) (text line : List ℕ) (others : Lines) → lines_of text ≡ line ∷ others
    → due_behind due line ≡ None → judged due (lines_of text) ≡ Err 1
judged-wrong due text line others cut wrong =
    ap (judged due) cut ∙ ap (judged_behind (λ d. judged d others)) wrong

-- what is judged behind so many lines
abbrev pub behind_lines : ℕ → Result Outline ℕ → Result Outline ℕ
behind_lines n (Ok outline) = Ok outline
behind_lines n (Err line) = Err (n + line)

pub behind-one : (n : ℕ) (r : Result Outline ℕ) → behind_lines n (one_line_later r) ≡ behind_lines (n + 1) r
behind-one n (Ok outline) = refl
behind-one n (Err line) = let e : n + (line + 1) ≡ n + 1 + line = omega arith in ap (λ (m : ℕ). Err m) e

-- where nothing is left, and a trace may end
pub all-judged : (at : Due) (text : List ℕ) (n : ℕ) (o : Outline) (all : Result Outline ℕ)
    → all ≡ behind_lines n (judged at (lines_of text)) → length text ≡ 0 → ending at ≡ Some o → all ≡ Ok o
all-judged at [] n o all is none end = is ∙ ap (λ (last : Option Outline). behind_lines n (or_missing last)) end
all-judged at (b ∷ text) n o all is none end = absurd (omega (arith, none))
