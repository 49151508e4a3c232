-- The line that names the first line that is wrong in a text.
use Rattle.std.specs.Prelude.{◌≡◌, ℕ, List, [], ◌∷◌, ◌++◌, codes, decimal}
use Rattle.ttp_base.specs.Text.{Lines, newline}
use Rattle.ttp_world.specs.declared.medl.Medl.{Medl}
use Rattle.ttp_world.specs.declared.script.Script.{Script}
use Rattle.trace_check.specs.Answer.{IsFirstWrong}

-- the line that names the first wrong line of a text, counted from 1
abbrev pub differs_line : ℕ → List ℕ
differs_line line = codes "differs at line " ++ decimal line ++ newline

-- the line alone that names the first wrong one of a text
pub record IsDifference (list : Medl) (script : Script) (text : List ℕ) (lines : Lines) : Type 0 where
  pub line : ℕ
  pub first : IsFirstWrong list script text line
  pub said : lines ≡ differs_line line ∷ []
