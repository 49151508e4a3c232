-- A line of a campaign cut into words, and the lists that stand in it.
use Rattle.std.specs.Prelude.{ℕ, ◌+◌, ◌-◌, ◌^◌, ◌==◌, nat_le, nat_lt, Bool, true, false}
use Rattle.std.specs.Prelude.{◌&&◌, ◌||◌, List, [], ◌∷◌, length, take, drop}
use Rattle.std.specs.Prelude.{fold, Option, Some, None, option_map, codes, unwrap_or, position, if◌then◌else◌}
use Rattle.std.specs.Borrow.{Bor}
use Rattle.std.specs.List.{slice_split}
use Rattle.std.specs.Str.{bytes_eq}
use Rattle.ttp_base.specs.NodeSet.{members_in}
use Rattle.ttp_base.specs.Text.{newline}
use Rattle.line_text.specs.Labels.{after_label}
use Rattle.line_text.specs.Numerals.{numeral_in}
use Rattle.line_reader.specs.TraceLines.{slot_digits}
use Rattle.line_form.specs.Kinds.{read, hexed_or}
use Rattle.line_form.specs.Forms.{LineForm, Values, line_values}
use Rattle.line_reader.specs.Reading.{◌>>=◌}
use Rattle.whole_campaign.specs.declared.listed.Kind.{Kind}
use Rattle.whole_campaign.specs.declared.listed.Kind.TheVariants as kind
use Rattle.whole_campaign.specs.declared.listed.NodesSoFar.{NodesSoFar}
use Rattle.whole_campaign.specs.declared.listed.SetsSoFar.{SetsSoFar}

-- a line without its line feed, if it has one
unfoldable pub without_feed : List ℕ → Option (List ℕ)
without_feed line =
    if bytes_eq (drop (length line - 1) line) newline then Some (take (length line - 1) line) else None

-- what the values of a line say, where it has this form
unfoldable pub line_said : {A : Type 0} → (form : LineForm) → (Values form → A) → List ℕ → Option A
line_said form said bytes = option_map said (line_values form bytes)

-- the front of bytes, and what is left behind it
pub record Cut : Type 0 where
  pub front : List ℕ
  pub rest : List ℕ

-- bytes cut behind so many of them
abbrev pub cut_after : ℕ → List ℕ → Cut
cut_after n bytes = record { front = take n bytes; rest = drop n bytes }

-- the same that code cut
abbrev pub cut_of : Bor (List ℕ) × Bor (List ℕ) → Cut
cut_of cut = record { front = cut.0.now; rest = cut.1.now }

-- how many bytes stand before the first of these
abbrev pub length_before : ℕ → List ℕ → ℕ
length_before stop bytes = unwrap_or (position (λ b. b == stop) bytes) (length bytes)

-- what stands behind a label and before the next of these bytes
unfoldable pub word_behind : ℕ → List ℕ → List ℕ → Option Cut
word_behind stop label bytes = after_label label bytes >>= λ rest. Some (cut_after (length_before stop rest) rest)

-- a byte is a space
abbrev pub is_space : ℕ → Bool
is_space b = b == 32

-- how long the first so many words of bytes are, with the spaces between them
unfoldable pub length_of_words : ℕ → List ℕ → ℕ
length_of_words n [] = 0
length_of_words n (b ∷ bytes) =
    if is_space b
    then (if nat_le n 1 then 0 else length_of_words (n - 1) bytes + 1)
    else length_of_words n bytes + 1

-- so many words behind a space
unfoldable pub words_behind : ℕ → List ℕ → Option Cut
words_behind n bytes = after_label (codes " ") bytes >>= λ rest. Some (cut_after (length_of_words n rest) rest)

-- Numbers.

-- nodes have at most two digits
abbrev pub node_digits : ℕ
node_digits = 2

-- Lists.

-- the byte between the words of a list
abbrev pub is_comma : ℕ → Bool
is_comma b = b == 44

-- the words of a list, which commas part
abbrev pub words_listed : List ℕ → List (List ℕ)
words_listed list = slice_split is_comma list

-- the words of the list that is left, if one is
abbrev pub words_left : Option (List ℕ) → List (List ℕ)
words_left None = []
words_left (Some list) = words_listed list

-- what stands where a list has no words
abbrev pub is_dash : List ℕ → Bool
is_dash word = bytes_eq word (codes "-")

-- why a node left
unfoldable pub is_reason : List ℕ → Bool
is_reason word =
    bytes_eq word (codes "denied") || (bytes_eq word (codes "unacknowledged") || bytes_eq word (codes "clique"))

-- the node that left, of a word `NODE:SLOT:REASON` with a slot below this
unfoldable pub leaving_in : ℕ → List ℕ → Option ℕ
leaving_in slots word = do
  node ← word_behind 58 [] word
  slot ← word_behind 58 (codes ":") node.rest
  reason ← after_label (codes ":") slot.rest
  k ← numeral_in node_digits node.front
  t ← numeral_in slot_digits slot.front
  if nat_lt t slots && is_reason reason then Some k else None

-- the node that a word of a list of this kind tells
abbrev pub node_in_word : Kind → List ℕ → Option ℕ
node_in_word (kind.Leaving slots) word = leaving_in slots word
node_in_word kind.Hurt word = numeral_in node_digits word

-- one word more, of a node below n and above those before it
unfoldable pub with_node_word : Kind → ℕ → Option NodesSoFar → List ℕ → Option NodesSoFar
with_node_word kind n so_far word = do
  before ← so_far
  k ← node_in_word kind word
  if nat_le before.least k && nat_lt k n then Some (record { least = k + 1; count = before.count + 1 }) else None

-- before the first word
abbrev pub no_nodes_yet : NodesSoFar
no_nodes_yet = record { least = 0; count = 0 }

-- how many nodes a list tells, in ascending order and below n, with commas between them; a dash is none
unfoldable pub nodes_listed : Kind → ℕ → List ℕ → Option ℕ
nodes_listed kind n word =
    if is_dash word
    then Some 0
    else (fold (with_node_word kind n) (Some no_nodes_yet) (words_listed word) >>= λ nodes. Some nodes.count)

-- how many members a set has that is written in four digits or six, all of them below n
unfoldable pub members_listed : ℕ → List ℕ → Option ℕ
members_listed n word =
    read (hexed_or 4 6) word >>= λ w. if nat_lt w.1 (2 ^ n) then Some (length (members_in w.1)) else None

-- one membership more
unfoldable pub with_set_word : ℕ → Option SetsSoFar → List ℕ → Option SetsSoFar
with_set_word n so_far word = do
  before ← so_far
  members ← members_listed n word
  Some (record { count = before.count + 1; company = before.company || nat_le 2 members })

-- before the first one
abbrev pub no_sets_yet : SetsSoFar
no_sets_yet = record { count = 0; company = false }

-- how many memberships a list tells, and whether one of them has two members or more; a dash is none
unfoldable pub sets_listed : ℕ → List ℕ → Option SetsSoFar
sets_listed n word =
    if is_dash word
    then Some no_sets_yet
    else fold (with_set_word n) (Some no_sets_yet) (words_listed word)

-- whether memberships were split, by the words of the first and the last such slot
unfoldable pub split_in : ℕ → List ℕ → List ℕ → Option Bool
split_in slots first last =
    if is_dash first && is_dash last
    then Some false
    else (numeral_in slot_digits first >>= λ f. numeral_in slot_digits last
    >>= λ g. if nat_le f g && nat_lt g slots then Some true else None)
