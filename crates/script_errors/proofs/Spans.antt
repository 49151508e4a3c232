-- The first and the last slot of a line.
use Rattle.std.proofs.Common.{◌≡◌, ℕ, List, [], ◌∷◌, length, get_or, arith, refl}
use Rattle.script_errors.specs.declared.error.Form.TheVariants as form
use Rattle.script_errors.specs.declared.error.ScriptError.{ScriptError}
use Rattle.script_errors.specs.declared.spots.Spot.{Spot}
use Rattle.script_errors.specs.Spots.{spot, spot_text}
use Rattle.script_errors.specs.Words.{parts_of}
use Rattle.script_errors.specs.Errors.{errors_of_word, backwards, span_errors}

-- the error of two words of a line
abbrev pub span_at : ℕ → ℕ → List ℕ → List Spot → ℕ → ℕ → List ScriptError
span_at slots number line words i j =
    errors_of_word number (get_or words j (spot 0 0))
    (backwards slots (spot_text line (get_or words i (spot 0 0))) (spot_text line (get_or words j (spot 0 0))))

pub span_five : (slots number : ℕ) (line : List ℕ) (words : List Spot) → length words ≡ 5
    → span_errors slots number line (parts_of form.Send) words ≡ span_at slots number line words 3 4
span_five slots number line [] full = absurd (omega arith)
span_five slots number line (a ∷ []) full = absurd (omega arith)
span_five slots number line (a ∷ b ∷ []) full = absurd (omega arith)
span_five slots number line (a ∷ b ∷ c ∷ []) full = absurd (omega arith)
span_five slots number line (a ∷ b ∷ c ∷ d ∷ []) full = absurd (omega arith)
span_five slots number line (a ∷ b ∷ c ∷ d ∷ e ∷ words) full = refl

pub span_four : (slots number : ℕ) (line : List ℕ) (words : List Spot) → length words ≡ 4
    → span_errors slots number line (parts_of form.Error) words ≡ span_at slots number line words 2 3
span_four slots number line [] full = absurd (omega arith)
span_four slots number line (a ∷ []) full = absurd (omega arith)
span_four slots number line (a ∷ b ∷ []) full = absurd (omega arith)
span_four slots number line (a ∷ b ∷ c ∷ []) full = absurd (omega arith)
span_four slots number line (a ∷ b ∷ c ∷ d ∷ words) full = refl

pub ruleset spans = (span_five, span_four)
