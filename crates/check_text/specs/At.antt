-- A line of a text, with what follows it.
use Rattle.std.specs.Prelude.{◌≡◌, ℕ, List, drop}
use Rattle.script_text.specs.Lines.{lines_of_file}
use Rattle.check_text.specs.declared.line_at.LineAt.{LineAt}
use Rattle.check_text.specs.Lines.{line_numbered}

-- it is the line of its number, and the lines behind it are those of the rest
pub record IsLineAt (text : List ℕ) (at : LineAt) : Type 0 where
  pub piece : at.piece.now ≡ line_numbered (lines_of_file text) at.number
  pub rest : lines_of_file at.rest.now ≡ drop at.number (lines_of_file text)
