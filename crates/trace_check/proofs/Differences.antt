-- The line on a text that is no trace.
use Rattle.std.proofs.Common.{◌≡◌, ℕ, Bool, true, false, List, ◌++◌, refl, arith, codes, decimal}
use Rattle.std.specs.Prelude.{◌==◌, ◌↔◌}
use Rattle.std.proofs.lemmas.List.Folds.{list_any-append}
use Rattle.ttp_base.specs.Text.{newline, is_line}
use Rattle.ttp_base.proofs.Lines.{is_line-append}
use Rattle.ttp_base.proofs.Numerals.{has, has-decimal}
use Rattle.ttp_world.specs.declared.medl.Medl.{Medl}
use Rattle.ttp_world.specs.declared.script.Script.{Script}
use Rattle.trace_check.specs.declared.answer.Outcome.TheVariants as outcome
use Rattle.trace_check.specs.Answer.{is_trace}
use Rattle.trace_check.specs.Difference.{differs_line}

-- it is one line
differs-by_words : (line : List ℕ) → has 10 line ≡ false → is_line (codes "differs at line " ++ line ++ newline) ≡ true
differs-by_words line none =
    is_line-append (codes "differs at line " ++ line) newline (simp (list_any-append (λ c. c == 10), none)) refl

pub differs_line-is_line : (line : ℕ) → is_line (differs_line line) ≡ true
differs_line-is_line line = differs-by_words (decimal line) (has-decimal 10 line (omega arith))

-- where a line is named the text is no trace
pub differs-none : (list : Medl) (script : Script) (text : List ℕ) (line : ℕ)
    → ((outcome.Differs line ≡ outcome.Same) ↔ (is_trace list script text ≡ true)) → is_trace list script text ≡ false
differs-none list script text line same = by_case (is_trace list script text) same
  where
    by_case : (b : Bool) → ((outcome.Differs line ≡ outcome.Same) ↔ (b ≡ true)) → b ≡ false
    by_case false is = refl
    by_case true is = let is_same : outcome.Differs line ≡ outcome.Same = is.1 refl in absurd cc
