-- A line as data: labels, and a word of a kind behind each. How it is spelled and read.
use Rattle.std.specs.Prelude.{◌≡◌, ℕ, ◌+◌, ◌==◌, ◌<◌, pos, Bool, true, false, ◌&&◌, ◌||◌, not}
use Rattle.std.specs.Prelude.{List, [], ◌∷◌, ◌++◌, length, Option, Some, None, unwrap_or, is_some, if◌then◌else◌}
use Rattle.std.specs.Str.{bytes_eq}
use Rattle.ttp_base.specs.Text.{newline}
use Rattle.line_form.specs.Kinds.{Kind, number, signed, hexed, hexed_or, one_of}
use Rattle.line_form.specs.Kinds.{payload, or_dash, commas, named, joined, free}
use Rattle.line_form.specs.declared.named.Named.{Named}
use Rattle.line_form.specs.declared.named.Named.TheVariants as choice
use Rattle.line_form.specs.Kinds.{Value, spell, read, fits_kind, sound, avoids, has_byte}
use Rattle.line_form.specs.Kinds.{longest, behind_prefix, front, back, ◌>>=◌}

pub record Field : Type 0 where
  pub label : List ℕ
  pub kind : Kind

infix 90 ◌▸◌
-- a label, and the word behind it
abbrev pub ◌▸◌ : List ℕ → Kind → Field
label ▸ kind = record { label = label; kind = kind }

abbrev pub LineForm : Type 0
LineForm = List Field

-- the values of its words
abbrev pub Values : LineForm → Type 0
Values [] = Unit {0}
Values (f ∷ form) = Value f.kind × Values form

-- the text of values, before some more bytes
abbrev pub spelled_before : List ℕ → (form : LineForm) → Values form → List ℕ
spelled_before more [] v = more
spelled_before more (f ∷ form) (v, vs) = f.label ++ (spell f.kind v ++ spelled_before more form vs)

-- the text of a line, and the same with its line feed
abbrev pub spelled : (form : LineForm) → Values form → List ℕ
spelled form v = spelled_before [] form v

abbrev pub spelled_line : (form : LineForm) → Values form → List ℕ
spelled_line form v = spelled_before newline form v

-- a line with a label and a word more
unfoldable pub worded : List ℕ → List ℕ → List ℕ → List ℕ
worded line label word = line ++ label ++ word

-- the values fit
abbrev pub fit : (form : LineForm) → Values form → Bool
fit [] v = true
fit (f ∷ form) (v, vs) = fits_kind f.kind v && fit form vs

-- A free word is the rest of its line, and stands last. The others end at a space, which begins the label behind them.

abbrev pub is_free : Kind → Bool
is_free (free most) = true
is_free _ = false

abbrev pub starts_with_space : List ℕ → Bool
starts_with_space [] = false
starts_with_space (b ∷ label) = b == 32

abbrev pub goes_on : Kind → LineForm → Bool
goes_on k [] = is_free k || avoids 32 k
goes_on k (f ∷ form) = not (is_free k) && (avoids 32 k && starts_with_space f.label)

-- a description is sound: what it spells is one line, and of one value
abbrev pub well : LineForm → Bool
well [] = true
well (f ∷ form) =
    sound f.kind && (avoids 10 f.kind && (not (has_byte 10 f.label) && (goes_on f.kind form && well form)))

-- how long it is at most
abbrev pub longest_line : LineForm → ℕ
longest_line [] = 0
longest_line (f ∷ form) = length f.label + longest f.kind + longest_line form

-- Reading, a word after another. What is left is nothing from where a word can't be read on.

-- the word at the front, which may be all, and what is left behind it
abbrev pub front_word : Bool → List ℕ → List ℕ
front_word all bytes = if all then bytes else front 32 bytes

abbrev pub behind_word : Bool → List ℕ → List ℕ
behind_word all bytes = if all then [] else back 32 bytes

-- behind a label
unfoldable pub labelled : List ℕ → Option (List ℕ) → Option (List ℕ)
labelled label left = left >>= behind_prefix label

-- the word there
unfoldable pub next_word : Bool → Option (List ℕ) → List ℕ
next_word all None = []
next_word all (Some bytes) = front_word all bytes

-- what is left behind a word, if it could be read
unfoldable pub left_behind : Bool → Bool → Option (List ℕ) → Option (List ℕ)
left_behind all false left = None
left_behind all true None = None
left_behind all true (Some bytes) = Some (behind_word all bytes)

-- a value that stands where none could be read
abbrev pub no_value : (k : Kind) → Value k
no_value (number limit) = 0
no_value (signed limit) = pos 0
no_value (hexed digits) = 0
no_value (hexed_or few many) = (false, 0)
no_value (one_of texts) = 0
no_value (payload most) = []
no_value (or_dash k) = None
no_value (commas most k) = []
no_value (named texts prefix k) = choice.Told 0
no_value (joined k b l) = (no_value k, no_value l)
no_value (free most) = []

-- what a field takes of what is left
abbrev pub field_word : List ℕ → Kind → Option (List ℕ) → List ℕ
field_word label k left = next_word (is_free k) (labelled label left)

unfoldable pub field_value : List ℕ → (k : Kind) → Option (List ℕ) → Value k
field_value label k left = unwrap_or (read k (field_word label k left)) (no_value k)

unfoldable pub past : List ℕ → (k : Kind) → Option (List ℕ) → Option (List ℕ)
past label k left = left_behind (is_free k) (is_some (read k (field_word label k left))) (labelled label left)

-- the values, and what is left behind them
abbrev pub values_in : (form : LineForm) → Option (List ℕ) → Values form
values_in [] left = tt
values_in (f ∷ form) left = (field_value f.label f.kind left, values_in form (past f.label f.kind left))

abbrev pub left_of : LineForm → Option (List ℕ) → Option (List ℕ)
left_of [] left = left
left_of (f ∷ form) left = left_of form (past f.label f.kind left)

-- nothing is left, and all was read
abbrev pub is_end : Option (List ℕ) → Bool
is_end None = false
is_end (Some bytes) = length bytes == 0

-- a value, if nothing is left
unfoldable pub closed_line : {A : Type 0} → Option (List ℕ) → A → Option A
closed_line left v = if is_end left then Some v else None

-- the values of a line
abbrev pub line_values : (form : LineForm) → List ℕ → Option (Values form)
line_values form bytes = closed_line (left_of form (Some bytes)) (values_in form (Some bytes))

-- Two lines begin alike, as far as their labels and numbers go, and then have labels of which none begins as the other.

abbrev pub same_number : Kind → Kind → Bool
same_number (number limit) (number other) = limit == other
same_number _ _ = false

abbrev pub labels_part : List ℕ → List ℕ → Bool
labels_part [] label = false
labels_part (b ∷ label) [] = false
labels_part (b ∷ label) (c ∷ other) = if b == c then labels_part label other else true

abbrev pub lines_part : LineForm → LineForm → Bool
lines_part [] form = false
lines_part (f ∷ form) [] = false
lines_part (f ∷ form) (g ∷ other) =
    labels_part f.label g.label
    || (bytes_eq f.label g.label && (same_number f.kind g.kind && lines_part form other))

-- each value fits
abbrev pub EachFits : (form : LineForm) → Values form → Type 0
EachFits [] v = Unit {0}
EachFits (f ∷ form) (v, vs) = (fits_kind f.kind v ≡ true) × EachFits form vs

-- one of so many texts, or a number below a limit
abbrev pub FitsNamed : ℕ → ℕ → Named ℕ → Type 0
FitsNamed count limit (choice.Told i) = i < count
FitsNamed count limit (choice.Other n) = n < limit
