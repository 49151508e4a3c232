-- What stands where a text stops being TOML.
use Rattle.std.specs.Prelude.{ℕ, not, ◌&&◌, ◌==◌, List, length, take, codes, nat_lt, Result, Ok, Err}
use Rattle.std.specs.Prelude.{Option, Some, None, if◌then◌else◌}
use Rattle.std.specs.List.{prefix_len, list_all}
use Rattle.std.specs.Char.{is_ascii_digit}
use Rattle.std.specs.Str.{str_eq_ignore_ascii_case}
use Rattle.toml_parser.specs.Lexical.{first, starts_newline, quote, is_word}
use Rattle.toml_parser.specs.Numbers.{word_len}
use Rattle.toml_walk.specs.declared.stop.Due.{Due}
use Rattle.toml_walk.specs.declared.stop.Due.TheVariants as due_parts
use Rattle.toml_walk.specs.declared.stop.Token.{Token}
use Rattle.toml_walk.specs.declared.stop.Token.TheVariants as token
use Rattle.toml_walk.specs.declared.stop.NoValue.{NoValue}
use Rattle.toml_walk.specs.declared.stop.NoValue.TheVariants as reasons
use Rattle.toml_walk.specs.declared.stop.Why.{Why}
use Rattle.toml_walk.specs.declared.stop.Why.TheVariants as why
use Rattle.toml_walk.specs.declared.halt.Halted.{Halted}

-- the reading stops at the front of a text
abbrev pub halted : List ℕ → Why → Halted
halted text w = record { left = length text; why = w }

-- what was read, or else where the reading stops
abbrev pub or_halted : {A : Type 0} → Option A → Halted → Result A Halted
or_halted None h = Err h
or_halted (Some x) h = Ok x

-- the bytes of the word at the front of a text: letters, digits and `-_+.:`
abbrev pub word_length : List ℕ → ℕ
word_length text = prefix_len is_word text

-- what stands at the front of a text
unfoldable pub token_at : List ℕ → Token
token_at text =
    if nat_lt 0 (word_length text) then token.Shown (word_length text)
    else if length text == 0 then token.FileEnd
    else if starts_newline text then token.LineEnd
    else if first text == quote then token.DoubleQuote
    else token.Shown 1

-- something else stands where this is due
abbrev pub due : Due → List ℕ → Halted
due what text = halted text (why.Due what (token_at text))

-- why a word is no value
unfoldable pub reason_of : List ℕ → NoValue
reason_of word =
    if str_eq_ignore_ascii_case word (codes "true") then reasons.NearTrue
    else if str_eq_ignore_ascii_case word (codes "false") then reasons.NearFalse
    else if not (is_ascii_digit (first word)) then reasons.NoWord
    else if not (first word == 48) && list_all is_ascii_digit word then reasons.TooLarge
    else reasons.NoDigits

-- no value stands at the front of a text; a word of a value goes on behind one space where a digit follows
unfoldable pub no_value_there : List ℕ → Halted
no_value_there text =
    if word_length text == 0 then due due_parts.Value text
    else halted text (why.NoValue (word_len text) (reason_of (take (word_len text) text)))
