-- What a line says of a text that is no TOML.
use Rattle.std.specs.Prelude.{ℕ, Bool, true, false, List, ◌++◌, take, drop, codes, Option, Some, None}
use Rattle.toml_walk.specs.declared.stop.Due.{Due}
use Rattle.toml_walk.specs.declared.stop.Due.TheVariants as due
use Rattle.toml_walk.specs.declared.stop.NoValue.{NoValue}
use Rattle.toml_walk.specs.declared.stop.NoValue.TheVariants as no_value
use Rattle.toml_walk.specs.declared.stop.Stop.{Stop}
use Rattle.toml_walk.specs.declared.stop.Token.{Token}
use Rattle.toml_walk.specs.declared.stop.Token.TheVariants as token
use Rattle.toml_walk.specs.declared.stop.Why.{Why}
use Rattle.toml_walk.specs.declared.stop.Why.TheVariants as why
use Rattle.check_words.specs.Shown.{shown_word}

-- so many bytes of a text from a place on, as they are shown
abbrev pub shown_there : List ℕ → ℕ → ℕ → List ℕ
shown_there text at len = shown_word (take len (drop at text))

-- what is due
abbrev pub due_words : Due → List ℕ
due_words due.Key = codes "a key"
due_words due.Equals = codes "="
due_words due.HeaderEnd = codes "]"
due_words due.ElementEnd = codes ", or ]"
due_words due.MemberEnd = codes ", or }"
due_words due.LineEnd = codes "the end of the line"
due_words due.Value = codes "a value"

-- what stands at a place of a text
abbrev pub token_words : List ℕ → ℕ → Token → List ℕ
token_words text at token.FileEnd = codes "the end of the file"
token_words text at token.LineEnd = codes "the end of the line"
token_words text at token.DoubleQuote = codes "a double quote"
token_words text at (token.Shown len) = shown_there text at len

-- why a word is no value
abbrev pub no_value_words : NoValue → List ℕ
no_value_words no_value.NearTrue = codes "nearest true"
no_value_words no_value.NearFalse = codes "nearest false"
no_value_words no_value.TooLarge = codes "the number is too large"
no_value_words no_value.NoDigits = codes "wanted digits with no unit and no leading zero"
no_value_words no_value.NoWord = codes "wanted a number, true, false or a text in quotes"

-- what is said of a key in the single brackets of a header
abbrev pub brackets_words : Bool → List ℕ
brackets_words false = codes ""
brackets_words true = codes ", elements of an array take double brackets"

-- why a text is no TOML, which stops being one at a place
abbrev pub why_words : List ℕ → ℕ → Why → List ℕ
why_words text at (why.Due d t) = due_words d ++ (codes " is due, not " ++ token_words text at t)
why_words text at why.NoString = codes "the string that begins here has no end or a wrong character"
why_words text at (why.NoValue len reason) =
    shown_there text at len ++ (codes " is no value, " ++ no_value_words reason)
why_words text at (why.Defined key in_brackets) =
    shown_word key ++ (codes " is defined already" ++ brackets_words in_brackets)

-- why a text is no TOML, if it stops being one somewhere
unfoldable pub stop_words : List ℕ → Option Stop → List ℕ
stop_words text None = codes ""
stop_words text (Some stop) = why_words text stop.at stop.why
