-- A line of the output: a place, and what is said of it.
use Rattle.std.specs.Prelude.{ℕ, List, ◌++◌, codes}
use Rattle.std.specs.Fmt.{decimal}
use Rattle.ttp_base.specs.Text.{newline}
use Rattle.check_words.specs.declared.lines.Place.{Place}

-- a place of a file of this name
abbrev pub file_place : List ℕ → Place → List ℕ
file_place name place =
    name ++ (codes ":" ++ (decimal place.line ++ (codes ":" ++ (decimal place.column ++ codes ": "))))

-- what is wrong there
abbrev pub error_line : List ℕ → Place → List ℕ → List ℕ → List ℕ
error_line name place fault said =
    ((((file_place name place ++ codes "error: ") ++ fault) ++ codes ": ") ++ said) ++ newline

-- how many lines of both kinds stand before the last one
abbrev pub counts_text : ℕ → ℕ → List ℕ
counts_text errors warnings =
    codes "errors " ++ (decimal errors ++ (codes " warnings " ++ (decimal warnings ++ codes " ")))

-- the last line: these counts, and the line that the test answers
unfoldable pub last_line : ℕ → ℕ → List ℕ → List ℕ
last_line errors warnings answer = counts_text errors warnings ++ answer
