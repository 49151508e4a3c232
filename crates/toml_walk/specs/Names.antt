-- The names of a text and what they hold, by the rules with which keys and headers define tables.
--
-- A name is a key of a table. Tables are numbered in the order in which they come up; the root is table 0. What names
-- hold is a diary with its newest entry first.
use Rattle.std.specs.Prelude.{ℕ, ◌+◌, Bool, ◌&&◌, ◌==◌, List, [], ◌∷◌, Option, Some}
use Rattle.std.specs.Prelude.{None, option_and_then, is_some, if◌then◌else◌}
use Rattle.std.specs.Str.{bytes_eq}
use Rattle.toml_parser.specs.Strings.{Key}
use Rattle.toml_walk.specs.declared.names.Origin.{Origin}
use Rattle.toml_walk.specs.declared.names.Origin.TheVariants as origin
use Rattle.toml_walk.specs.declared.names.Holds.{Holds}
use Rattle.toml_walk.specs.declared.names.Holds.TheVariants as holds

-- a key of a table holds this from now on
pub record Name : Type 0 where
  pub table : ℕ
  pub key : List ℕ
  pub held : Holds

-- what was noted so far, and how many tables there are
pub record Noted : Type 0 where
  pub names : List Name
  pub tables : ℕ

abbrev pub nothing_noted : Noted
nothing_noted = record { names = []; tables = 1 }

-- what a key of a table holds
abbrev pub is_name : ℕ → List ℕ → Name → Bool
is_name t k n = (n.table == t) && bytes_eq n.key k

abbrev pub held_by : ℕ → List ℕ → List Name → Option Holds
held_by t k [] = None
held_by t k (n ∷ ns) = if is_name t k n then Some n.held else held_by t k ns

-- one thing more is noted
abbrev pub noting : ℕ → List ℕ → Holds → Noted → Noted
noting t k h noted =
    record { names = record { table = t; key = k; held = h } ∷ noted.names; tables = noted.tables }

-- there is one table more
abbrev pub with_table : Noted → Noted
with_table noted = record { names = noted.names; tables = noted.tables + 1 }

-- a key holds a new table
abbrev pub noting_table : ℕ → List ℕ → Origin → Noted → Noted
noting_table t k o noted = noting t k (holds.Table o noted.tables) (with_table noted)

-- a key holds an array of tables whose last one is new
abbrev pub noting_element : ℕ → List ℕ → Noted → Noted
noting_element t k noted = noting t k (holds.Array noted.tables) (with_table noted)

-- The table to which a key leads, and what is noted then, where the rules allow it.
abbrev pub Leads : Type 0
Leads = Option (ℕ × Noted)

-- A header passes through any table, and into the last element of an array of tables.
abbrev pub header_through : ℕ → List ℕ → Noted → Option Holds → Leads
header_through t k noted None = Some (noted.tables, noting_table t k origin.Implicit noted)
header_through t k noted (Some holds.Value) = None
header_through t k noted (Some (holds.Table o number)) = Some (number, noted)
header_through t k noted (Some (holds.Array last)) = Some (last, noted)

abbrev pub pass_header : ℕ → List ℕ → Noted → Leads
pass_header t k noted = header_through t k noted (held_by t k noted.names)

-- A dotted key passes through no table that a header defined.
abbrev pub dot_through : ℕ → List ℕ → Noted → Option Holds → Leads
dot_through t k noted None = Some (noted.tables, noting_table t k origin.Dotted noted)
dot_through t k noted (Some holds.Value) = None
dot_through t k noted (Some (holds.Table origin.Header number)) = None
dot_through t k noted (Some (holds.Table origin.Implicit number)) =
    Some (number, noting t k (holds.Table origin.Dotted number) noted)
dot_through t k noted (Some (holds.Table origin.Dotted number)) = Some (number, noted)
dot_through t k noted (Some (holds.Array last)) = None

abbrev pub pass_dot : ℕ → List ℕ → Noted → Leads
pass_dot t k noted = dot_through t k noted (held_by t k noted.names)

-- part by part
abbrev pub along : (ℕ → List ℕ → Noted → Leads) → List (List ℕ) → ℕ → Noted → Leads
along pass [] t noted = Some (t, noted)
along pass (k ∷ ks) t noted = option_and_then (λ p. along pass ks p.0 p.1) (pass t k noted)

-- a value is defined once, at a key that holds nothing
abbrev pub put_last : ℕ → List ℕ → Noted → Option Noted
put_last t k noted = if is_some (held_by t k noted.names) then None else Some (noting t k holds.Value noted)

unfoldable pub put : ℕ → Key → Noted → Option Noted
put t key noted = option_and_then (λ p. put_last p.0 key.1 p.1) (along pass_dot key.0 t noted)

-- a header in single brackets defines a table once; one that other headers only passed through was not defined yet
abbrev pub table_at : ℕ → List ℕ → Noted → Option Holds → Leads
table_at t k noted None = Some (noted.tables, noting_table t k origin.Header noted)
table_at t k noted (Some holds.Value) = None
table_at t k noted (Some (holds.Table origin.Header number)) = None
table_at t k noted (Some (holds.Table origin.Dotted number)) = None
table_at t k noted (Some (holds.Table origin.Implicit number)) =
    Some (number, noting t k (holds.Table origin.Header number) noted)
table_at t k noted (Some (holds.Array last)) = None

-- a header in double brackets adds an element to an array of tables
abbrev pub element_at : ℕ → List ℕ → Noted → Option Holds → Leads
element_at t k noted None = Some (noted.tables, noting_element t k noted)
element_at t k noted (Some holds.Value) = None
element_at t k noted (Some (holds.Table o number)) = None
element_at t k noted (Some (holds.Array last)) = Some (noted.tables, noting_element t k noted)

abbrev pub opened_last : Bool → ℕ → List ℕ → Noted → Leads
opened_last is_element t k noted =
    if is_element then element_at t k noted (held_by t k noted.names) else table_at t k noted (held_by t k noted.names)

unfoldable pub header_opened : Bool → Key → Noted → Leads
header_opened is_element key noted =
    option_and_then (λ p. opened_last is_element p.0 key.1 p.1) (along pass_header key.0 0 noted)
