-- The loops of the walk, a turn at a time.
use Rattle.std.proofs.Common.{◌≡◌, ℕ, zero, suc, ◌-◌, ◌<◌, Bool, true, false, not, ◌==◌, List, length, drop}
use Rattle.std.proofs.Common.{Option, Some, None, Result, Ok, Err, MatchResult, refl, sym, ap, ◌∙◌, arith}
use Rattle.std.specs.Result.{IsErrAnd}
use Rattle.toml_parser.specs.Lexical.{first, skip_blank}
use Rattle.toml_parser.specs.Strings.{Key}
use Rattle.toml_walk.specs.declared.halt.Halt.{Halt}
use Rattle.toml_walk.specs.declared.halt.Halt.TheVariants as halts
use Rattle.toml_walk.specs.declared.halt.Halted.{Halted}
use Rattle.toml_walk.specs.declared.names.Names.{Names}
use Rattle.toml_walk.specs.declared.walk.Section.{Section}
use Rattle.toml_walk.specs.declared.walk.What.TheVariants as whats
use Rattle.toml_walk.specs.declared.stop.Due.TheVariants as due_parts
use Rattle.toml_walk.specs.Halting.{or_halted}
use Rattle.toml_walk.specs.Names.{Noted, nothing_noted, put, header_opened}
use Rattle.toml_walk.specs.Walk as spec
use Rattle.toml_walk.specs.Walk.{value, items, members, lines}
use Rattle.toml_walk.specs.Reading.{StopsAt, Walks, LeadsTo}
use Rattle.toml_walk.specs.Turns.{Halts, Notes, Opens}
use Rattle.toml_walk.proofs.Growing.{put_grows}

-- what a `?` passes on: an error of the walk
pub walks_err : {A B : Type 0} (f : A → B) (r : Result A Halt)
    (expected : Result B Halted) (e : Halt) (Q : Halt → Type 0)
    → IsErrAnd r Q → ((y : Halt) → Q y → y ≡ e) → Halts e expected → Walks f r expected
walks_err f (Ok a) expected e Q h same stops = absurd h
walks_err f (Err y) expected e Q h same stops = λ x is. stops x (sym (same y h) ∙ is)

-- or that memory was refused
pub memory_halts : {B : Type 0} (expected : Result B Halted) → Halts halts.Memory expected
memory_halts expected x is = absurd (grind arith)

pub value_at_most : (text : List ℕ) → value 0 text ≡ spec.atom text
unfolding value
value_at_most text = refl

pub value_array : (depth : ℕ) (text : List ℕ) → 0 < depth → (first text == 91) ≡ true
    → value depth text ≡ items (value (depth - 1)) (length text) (drop 1 text)
unfolding value
value_array zero text some is = absurd (omega arith)
value_array (suc depth) text some is =
    let less : suc depth - 1 ≡ depth = omega arith in
    rw (is, less)

pub value_table : (depth : ℕ) (text : List ℕ) → 0 < depth → (first text == 91) ≡ false → (first text == 123) ≡ true
    → value depth text ≡ members (value (depth - 1)) (length text) nothing_noted (drop 1 text)
unfolding value
value_table zero text some other is = absurd (omega arith)
value_table (suc depth) text some other is =
    let less : suc depth - 1 ≡ depth = omega arith in
    rw (other, is, less)

pub value_atom : (depth : ℕ) (text : List ℕ) → (first text == 91) ≡ false → (first text == 123) ≡ false
    → value depth text ≡ spec.atom text
unfolding value
value_atom zero text a b = refl
value_atom (suc depth) text a b = rw (a, b)

-- a value at a key, or the table of a header, that is allowed or not
pub put_ok : (t : ℕ) (k : Key) (noted more : Noted) (text : List ℕ) → put t k noted ≡ Some more
    → spec.put_at t k noted text ≡ Ok more
put_ok t k noted more text is = rw is

pub put_halts : (t : ℕ) (k : Key) (noted : Noted) (text : List ℕ) (h : Halt) → put t k noted ≡ None
    → StopsAt h (spec.defined false k text) → Halts h (spec.put_at t k noted text)
put_halts t k noted text h none stops x is = rw none (ap Err (sym (stops x is)))

pub opened_ok : (b : Bool) (k : Key) (noted more : Noted) (t : ℕ) (text : List ℕ)
    → header_opened b k noted ≡ Some (t, more)
    → spec.opened_at b k noted text ≡ Ok (spec.section t more)
opened_ok b k noted more t text is = rw is

pub opened_halts : (b : Bool) (k : Key) (noted : Noted) (text : List ℕ) (h : Halt) → header_opened b k noted ≡ None
    → StopsAt h (spec.defined (not b) k text) → Halts h (spec.opened_at b k noted text)
opened_halts b k noted text h none stops x is = rw none (ap Err (sym (stops x is)))

-- a pair defines its key in the table of the last header
pub pair_opens : (r : Result (Unit {0}) Halt) (section : Section) (sections : spec.Sections) (k : Key) (text : List ℕ)
    → section.table ≡ sections.table
    → ((more : Noted) → spec.put_at sections.table k sections.noted text ≡ Ok more → sections.table < more.tables)
    → Notes r section.names (spec.put_at sections.table k sections.noted text)
    → Opens r section (spec.define sections k whats.Pair text)
pair_opens (Ok u) section sections k text table within notes =
    let (more, is, stands) = notes in (
      spec.section sections.table more,
      rw is,
      record { noted = stands; table = table; within = within more is },
    )
pair_opens (Err h) section sections k text table within stops = λ x is. rw (stops x is)

abbrev tables_read : Result Noted Halted → ℕ
tables_read (Ok noted) = noted.tables
tables_read (Err h) = 0

within_more : (t : ℕ) (k : Key) (noted more : Noted) (text : List ℕ) (o : Option Noted) → put t k noted ≡ o
    → t < noted.tables → or_halted o (spec.defined false k text) ≡ Ok more → t < more.tables
within_more t k noted more text None e low is = absurd (grind arith)
within_more t k noted more text (Some now) e low is =
    let grown = put_grows t k noted now e in
    let same : now.tables ≡ more.tables = ap tables_read is in
    omega (arith, grown)

pub put_at_within : (t : ℕ) (k : Key) (noted : Noted) (text : List ℕ) → t < noted.tables
    → (more : Noted) → spec.put_at t k noted text ≡ Ok more → t < more.tables
put_at_within t k noted text low more is = within_more t k noted more text (put t k noted) refl low is

pub opened_opens : (section : Section) (names : Names) (b : Bool) (k : Key) (noted : Noted) (t : ℕ) (text : List ℕ)
    → section.names ≡ names → section.table ≡ t → LeadsTo (Some t) names (header_opened b k noted)
    → Opens (Ok tt) section (spec.opened_at b k noted text)
opened_opens section names b k noted t text same table leads =
    let (more, is, stands, within) = leads in (
      spec.section t more,
      opened_ok b k noted more t text is,
      record { noted = rw same stands; table = table; within = within },
    )

-- what a `?` passes on, beside what else a result says
pub match_err : {A B : Type 0} (P : A → Type 0) (r : Result A Halt)
    (expected : Result B Halted) (e : Halt) (Q : Halt → Type 0)
    → IsErrAnd r Q → ((y : Halt) → Q y → y ≡ e) → Halts e expected → MatchResult r P (λ h. Halts h expected)
match_err P (Ok a) expected e Q h same stops = absurd h
match_err P (Err y) expected e Q h same stops = λ x is. stops x (sym (same y h) ∙ is)

-- a turn through an inline table
module _ (v : List ℕ → Result (List ℕ) Halted) (n : ℕ) (noted : Noted) (text : List ℕ) where
  pub members_end : (first (skip_blank text) == 125) ≡ true
      → members v (suc n) noted text ≡ Ok (drop 1 (skip_blank text))
  unfolding members
  members_end closing = rw closing

  pub members_no_key : (h : Halted) → (first (skip_blank text) == 125) ≡ false → spec.pair_key (skip_blank text) ≡ Err h
      → members v (suc n) noted text ≡ Err h
  unfolding members
  members_no_key h other read = rw (other, read)

  module _ (k : Key) (at : List ℕ) (other : (first (skip_blank text) == 125) ≡ false)
      (read : spec.pair_key (skip_blank text) ≡ Ok (k, at)) where
    pub members_no_value : (h : Halted) → v at ≡ Err h → members v (suc n) noted text ≡ Err h
    unfolding members
    members_no_value h bad = rw (other, read, bad)

    pub members_twice : (rest : List ℕ) (h : Halted) → v at ≡ Ok rest → spec.put_at 0 k noted (skip_blank text) ≡ Err h
        → members v (suc n) noted text ≡ Err h
    unfolding members
    members_twice rest h good twice = rw (other, read, good, twice)

    pub members_no_end : (rest : List ℕ) (more : Noted) (h : Halted) → v at ≡ Ok rest
        → spec.put_at 0 k noted (skip_blank text) ≡ Ok more
        → spec.after_element 125 due_parts.MemberEnd rest ≡ Err h → members v (suc n) noted text ≡ Err h
    unfolding members
    members_no_end rest more h good once bad = rw (other, read, good, once, bad)

    pub members_on : (rest : List ℕ) (more : Noted) (next : List ℕ) → v at ≡ Ok rest
        → spec.put_at 0 k noted (skip_blank text) ≡ Ok more
        → spec.after_element 125 due_parts.MemberEnd rest ≡ Ok next
        → members v (suc n) noted text ≡ members v n more next
    unfolding members
    members_on rest more next good once closed = rw (other, read, good, once, closed)

-- a turn through a text
module _ (n : ℕ) (sections : spec.Sections) (text : List ℕ) where
  pub lines_end : length (skip_blank text) ≡ 0 → lines (suc n) sections text ≡ Ok (skip_blank text)
  unfolding lines
  lines_end none = rw none

  pub lines_no_statement : (h : Halted) → (length (skip_blank text) == 0) ≡ false
      → spec.statement (skip_blank text) ≡ Err h → lines (suc n) sections text ≡ Err h
  unfolding lines
  lines_no_statement h some bad = rw (some, bad)

  pub lines_twice : (s : spec.ReadStatement) (rest : List ℕ) (h : Halted) → (length (skip_blank text) == 0) ≡ false
      → spec.statement (skip_blank text) ≡ Ok (s, rest)
      → spec.define sections s.key s.what (skip_blank text) ≡ Err h → lines (suc n) sections text ≡ Err h
  unfolding lines
  lines_twice s rest h some read bad = rw (some, read, bad)

  pub lines_on : (s : spec.ReadStatement) (rest : List ℕ) (more : spec.Sections)
      → (length (skip_blank text) == 0) ≡ false
      → spec.statement (skip_blank text) ≡ Ok (s, rest)
      → spec.define sections s.key s.what (skip_blank text) ≡ Ok more → lines (suc n) sections text ≡ lines n more rest
  unfolding lines
  lines_on s rest more some read once = rw (some, read, once)
