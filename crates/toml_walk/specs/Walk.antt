-- A text as TOML, statement by statement and part by part, up to the first part that can't be read.
use Rattle.std.specs.Prelude.{ℕ, zero, suc, ◌-◌, Bool, true, false, not, ◌&&◌, ◌==◌}
use Rattle.std.specs.Prelude.{List, [], ◌∷◌, ◌++◌, length, drop, slice_index}
use Rattle.std.specs.Prelude.{Option, Some, None, option_map, Result, Ok, Err, if◌then◌else◌}
use Rattle.toml_parser.specs.Lexical.{first, comma, equals, left_bracket, right_bracket, left_brace, right_brace, dot}
use Rattle.toml_parser.specs.Lexical.{skip_ws, skip_blank}
use Rattle.toml_parser.specs.Strings.{Key, key, quoted, starts_string, recursion_limit}
use Rattle.toml_parser.specs.Numbers.{unquoted}
use Rattle.toml_parser.specs.Reading.{key_view}
use Rattle.toml.specs.Parse.{ends_line, skip_bom}
use Rattle.toml_walk.specs.declared.stop.Due.{Due}
use Rattle.toml_walk.specs.declared.stop.Due.TheVariants as due_parts
use Rattle.toml_walk.specs.declared.stop.Why.TheVariants as why
use Rattle.toml_walk.specs.declared.halt.Halted.{Halted}
use Rattle.toml_walk.specs.declared.stop.Stop.{Stop}
use Rattle.toml_walk.specs.declared.walk.Statement as code
use Rattle.toml_walk.specs.declared.walk.What.{What}
use Rattle.toml_walk.specs.declared.walk.What.TheVariants as whats
use Rattle.toml_walk.specs.Halting.{halted, or_halted, due, no_value_there}
use Rattle.toml_walk.specs.Names.{Noted, nothing_noted, put, header_opened}

infixl 10 ◌>>=◌
abbrev ◌>>=◌ : {A B : Type 0} → Result A Halted → (A → Result B Halted) → Result B Halted
Ok x >>= f = f x
Err h >>= f = Err h

-- a key with all its dots, and the text behind it
abbrev pub key_read : List ℕ → Result (Key × List ℕ) Halted
key_read text = or_halted (key text) (due due_parts.Key text)

-- the text behind a byte that is due
abbrev pub behind_byte : ℕ → Due → List ℕ → Result (List ℕ) Halted
behind_byte byte what text = if first text == byte then Ok (drop 1 text) else Err (due what text)

-- a key, `=` and the white space behind it
unfoldable pub pair_key : List ℕ → Result (Key × List ℕ) Halted
pair_key text = key_read text >>= (λ k. behind_byte equals due_parts.Equals k.1 >>= (λ rest. Ok (k.0, skip_ws rest)))

-- behind an element: a comma, or the closing bracket, which stays
unfoldable pub after_element : ℕ → Due → List ℕ → Result (List ℕ) Halted
after_element closing what text =
    let rest = skip_blank text in
    if first rest == comma then Ok (drop 1 rest) else if first rest == closing then Ok rest else Err (due what rest)

-- the text behind a string or another value without brackets
unfoldable pub atom : List ℕ → Result (List ℕ) Halted
atom text =
    if starts_string text then or_halted (option_map (λ p. p.1) (quoted text)) (halted text why.NoString)
    else or_halted (option_map (λ p. p.1) (unquoted text)) (no_value_there text)

-- the parts of a key, with dots between
abbrev pub dotted : List (List ℕ) → List ℕ → List ℕ
dotted [] last = last
dotted (part ∷ parts) last = part ++ dot ∷ dotted parts last

-- a key is defined already in the statement or the member at the front of a text
abbrev pub defined : Bool → Key → List ℕ → Halted
defined in_brackets k text = halted text (why.Defined (dotted k.0 k.1) in_brackets)

-- a key is noted as one that holds a value, unless it is defined already
abbrev pub put_at : ℕ → Key → Noted → List ℕ → Result Noted Halted
put_at table k noted text = or_halted (put table k noted) (defined false k text)

module _ (value : List ℕ → Result (List ℕ) Halted) where
  -- the text behind the rest of an array, of fewer than n elements
  unfoldable pub items : ℕ → List ℕ → Result (List ℕ) Halted
  items zero text = Ok text
  items (suc n) text =
      let start = skip_blank text in
      if first start == right_bracket then Ok (drop 1 start)
      else value start >>= (λ rest. after_element right_bracket due_parts.ElementEnd rest >>= items n)

  -- the text behind the rest of an inline table, of fewer than n members, whose keys so far are noted
  unfoldable pub members : ℕ → Noted → List ℕ → Result (List ℕ) Halted
  members zero noted text = Ok text
  members (suc n) noted text =
      let start = skip_blank text in
      if first start == right_brace then Ok (drop 1 start)
      else pair_key start >>= (λ k. value k.1 >>= (λ rest. put_at 0 k.0 noted start >>= (λ more.
      after_element right_brace due_parts.MemberEnd rest >>= members n more)))

-- the text behind a value, with arrays and inline tables at most this deep
unfoldable pub value : ℕ → List ℕ → Result (List ℕ) Halted
value zero text = atom text
value (suc depth) text =
    if first text == left_bracket then items (value depth) (length text) (drop 1 text)
    else if first text == left_brace then members (value depth) (length text) nothing_noted (drop 1 text)
    else atom text

-- a statement: its key, what it defines, and the text at the value of a pair, or else behind it
pub record ReadStatement : Type 0 where
  pub key : Key
  pub what : What
  pub value : List ℕ

-- the key of a header and its first closing bracket
unfoldable pub header_key : List ℕ → Result (Key × List ℕ) Halted
header_key text =
    key_read (skip_ws text) >>= (λ k. behind_byte right_bracket due_parts.HeaderEnd k.1 >>= (λ rest. Ok (k.0, rest)))

abbrev pub as_read : Key → What → List ℕ → ReadStatement
as_read k w text = record { key = k; what = w; value = text }

-- a statement and the text behind it
unfoldable pub expression : List ℕ → Result (ReadStatement × List ℕ) Halted
expression text =
    if first text == left_bracket && slice_index text 1 == left_bracket
    then header_key (drop 2 text) >>= (λ k. behind_byte right_bracket due_parts.HeaderEnd k.1 >>= (λ rest.
    Ok (as_read k.0 whats.Element rest, rest)))
    else if first text == left_bracket
    then header_key (drop 1 text) >>= (λ k. Ok (as_read k.0 whats.Header k.1, k.1))
    else pair_key text >>= (λ k. value recursion_limit k.1 >>= (λ rest. Ok (as_read k.0 whats.Pair k.1, rest)))

-- one that has its line to itself
unfoldable pub statement : List ℕ → Result (ReadStatement × List ℕ) Halted
statement text =
    expression text >>= (λ s. if ends_line (skip_ws s.1) then Ok s else Err (due due_parts.LineEnd (skip_ws s.1)))

-- the names of a text, and the table of its last header
pub record Sections : Type 0 where
  pub noted : Noted
  pub table : ℕ

-- pairs go to this table
abbrev pub section : ℕ → Noted → Sections
section t more = record { noted = more; table = t }

-- the table of a header, unless it is defined already
abbrev pub opened_at : Bool → Key → Noted → List ℕ → Result Sections Halted
opened_at is_element k noted text =
    or_halted (option_map (λ p. section p.0 p.1) (header_opened is_element k noted)) (defined (not is_element) k text)

-- what a statement at the front of a text defines
abbrev pub define : Sections → Key → What → List ℕ → Result Sections Halted
define sections k whats.Pair text =
    put_at sections.table k sections.noted text >>= (λ more. Ok (section sections.table more))
define sections k whats.Header text = opened_at false k sections.noted text
define sections k whats.Element text = opened_at true k sections.noted text

-- the end of the rest of a text, of fewer than n statements, whose keys so far are noted
unfoldable pub lines : ℕ → Sections → List ℕ → Result (List ℕ) Halted
lines zero sections text = Ok text
lines (suc n) sections text =
    let start = skip_blank text in
    if length start == 0 then Ok start
    else statement start >>= (λ s. define sections s.0.key s.0.what start >>= (λ more. lines n more s.1))

-- nothing is noted, and pairs go to the root
abbrev pub at_start : Sections
at_start = section 0 nothing_noted

-- the end of a text, or where it stops
unfoldable pub read_all : List ℕ → Result (List ℕ) Halted
read_all text = lines (suc (length text)) at_start (skip_bom text)

-- where a text of this size stops being TOML, if its reading stops
abbrev pub stop_at : ℕ → Result (List ℕ) Halted → Option Stop
stop_at size (Ok rest) = None
stop_at size (Err h) = Some (record { at = size - h.left; why = h.why })

unfoldable pub stop_of : List ℕ → Option Stop
stop_of text = stop_at (length text) (read_all text)

-- a statement of the code
abbrev pub statement_view : code.Statement → ReadStatement
statement_view s = record { key = key_view s.key; what = s.what; value = s.value.now }

-- a member of an inline table, and the text behind its comma or at the closing brace
unfoldable pub member : List ℕ → Result (Key × List ℕ) Halted
member text =
    pair_key text >>= (λ k. value recursion_limit k.1 >>= (λ rest.
    after_element right_brace due_parts.MemberEnd rest >>= (λ next. Ok (k.0, next))))

-- the text behind the comma of an element of an array, or at the closing bracket
unfoldable pub element : List ℕ → Result (List ℕ) Halted
element text = value recursion_limit text >>= after_element right_bracket due_parts.ElementEnd
