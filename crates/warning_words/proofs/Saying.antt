-- A script whose lines are gone over.
use Rattle.std.proofs.Common.{◌≡◌, ℕ, ◌+◌, ◌<◌, ◌≤◌, List, [], ◌∷◌, ◌++◌, length, Option, Some, None, arith}
use Rattle.script_text.specs.Lines.{lines_of_file}
use Rattle.script_errors.specs.declared.error.Form.{Form}
use Rattle.script_errors.specs.Words.{form_named}
use Rattle.warning_words.specs.declared.stated.SaidLine.{SaidLine}
use Rattle.warning_words.specs.SaidLines.{events_from, others_from}

-- the lines so far and those of what is left are all
pub record IsSaying (text : List ℕ) (number : ℕ) (rest : List ℕ) (events others : List SaidLine) : Type 0 where
  pub event_lines : events ++ events_from number (lines_of_file rest) ≡ events_from 1 (lines_of_file text)
  pub stating_lines : others ++ others_from number (lines_of_file rest) ≡ others_from 1 (lines_of_file text)
  pub counted : 1 ≤ number
  pub count : number + length rest ≤ length text + 1

-- a word that names a form has bytes
pub named_length : (word : List ℕ) (f : Form) → form_named word ≡ Some f → 0 < length word
named_length [] f named = absurd (let none : None ≡ Some f = named in cc)
named_length (b ∷ word) f named = omega arith
