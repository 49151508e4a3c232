-- Where a part of a key leads, and that the names stand for what is noted then.
use Rattle.std.proofs.Common.{◌≡◌, ℕ, ◌+◌, ◌<◌, ◌≤◌, Bool, true, false, is_some, List, []}
use Rattle.std.proofs.Common.{◌∷◌, ◌++◌, length, get_or, drop, append_assoc, Some, None, Result}
use Rattle.std.proofs.Common.{Ok, Err, IfOk, String, Global, string_bytes, sym, ◌∙◌}
use Rattle.std.proofs.lemmas.List.{at_drop_more, at_drop_all}
use Rattle.toml_parser.specs.Strings.{Key}
use Rattle.toml_parser.specs.Reading.{path_view}
use Rattle.toml_walk.specs.declared.names.Names.{Names}
use Rattle.toml_walk.specs.declared.names.Origin.{Origin}
use Rattle.toml_walk.specs.declared.names.Origin.TheVariants as origin
use Rattle.toml_walk.specs.declared.names.Holds.TheVariants as holds
use Rattle.toml_walk.specs.Names.{Noted, held_by, noting, pass_header, pass_dot, table_at}
use Rattle.toml_walk.specs.Names.{Leads, along, put, header_opened, opened_last}
use Rattle.toml_walk.specs.Walk.{dotted}
use Rattle.toml_walk.specs.Reading.{NamesStandFor, LeadsTo}

module _ (t : ℕ) (k : List ℕ) (noted : Noted) (names : Names) where
  -- a header
  pub header_table : (o : Origin) (n : ℕ) → held_by t k noted.names ≡ Some (holds.Table o n) → NamesStandFor names noted
      → LeadsTo (Some n) names (pass_header t k noted)
  header_table o n held stands = (noted, rw held, stands, stands.within t k (holds.Table o n) held)

  pub header_array : (n : ℕ) → held_by t k noted.names ≡ Some (holds.Array n) → NamesStandFor names noted
      → LeadsTo (Some n) names (pass_header t k noted)
  header_array n held stands = (noted, rw held, stands, stands.within t k (holds.Array n) held)

  -- a dotted key
  pub dot_implicit : (n : ℕ) → held_by t k noted.names ≡ Some (holds.Table origin.Implicit n) → n < noted.tables
      → NamesStandFor names (noting t k (holds.Table origin.Dotted n) noted)
      → LeadsTo (Some n) names (pass_dot t k noted)
  dot_implicit n held low stands = (noting t k (holds.Table origin.Dotted n) noted, rw held, stands, low)

  pub dot_dotted : (n : ℕ) → held_by t k noted.names ≡ Some (holds.Table origin.Dotted n) → NamesStandFor names noted
      → LeadsTo (Some n) names (pass_dot t k noted)
  dot_dotted n held stands = (noted, rw held, stands, stands.within t k (holds.Table origin.Dotted n) held)

  -- the last part of a header in single brackets
  pub table_implicit : (n : ℕ) → held_by t k noted.names ≡ Some (holds.Table origin.Implicit n) → n < noted.tables
      → NamesStandFor names (noting t k (holds.Table origin.Header n) noted)
      → LeadsTo (Some n) names (table_at t k noted (held_by t k noted.names))
  table_implicit n held low stands = (noting t k (holds.Table origin.Header n) noted, rw held, stands, low)

-- part by part of a key
module _ (pass : ℕ → List ℕ → Noted → Leads) (parts : List (String Global)) (i at : ℕ) (now : Noted) where
  pub part_on : (part : String Global) (next : ℕ) (more : Noted) → i < length parts → part ≡ get_or parts i part
      → pass at (string_bytes part) now ≡ Some (next, more)
      → along pass (path_view (drop i parts)) at now ≡ along pass (path_view (drop (i + 1) parts)) next more
  part_on part next more low is step =
      at_drop_more (λ ys. along pass (path_view ys) at now) parts i part low ∙ rw (← is, step)

  pub part_stops : (part : String Global) → i < length parts → part ≡ get_or parts i part
      → pass at (string_bytes part) now ≡ None → along pass (path_view (drop i parts)) at now ≡ None
  part_stops part low is step =
      at_drop_more (λ ys. along pass (path_view ys) at now) parts i part low ∙ rw (← is, step)

  pub parts_end : length parts ≤ i → along pass (path_view (drop i parts)) at now ≡ Some (at, now)
  parts_end past = at_drop_all (λ ys. along pass (path_view ys) at now) parts i past

module _ (t : ℕ) (key : Key) (noted : Noted) where
  pub put_stops : along pass_dot key.0 t noted ≡ None → put t key noted ≡ None
  unfolding put
  put_stops none = rw none

  pub put_twice : (at : ℕ) (now : Noted) → along pass_dot key.0 t noted ≡ Some (at, now)
      → is_some (held_by at key.1 now.names) ≡ true → put t key noted ≡ None
  unfolding put
  put_twice at now led taken = rw (led, taken)

  pub put_once : (at : ℕ) (now : Noted) → along pass_dot key.0 t noted ≡ Some (at, now)
      → is_some (held_by at key.1 now.names) ≡ false → put t key noted ≡ Some (noting at key.1 holds.Value now)
  unfolding put
  put_once at now led free = rw (led, free)

module _ (key : Key) (noted : Noted) where
  pub opened_stops : (is_element : Bool) → along pass_header key.0 0 noted ≡ None
      → header_opened is_element key noted ≡ None
  unfolding header_opened
  opened_stops is_element none = rw none

  pub opened_at : (is_element : Bool) (at : ℕ) (now : Noted) → along pass_header key.0 0 noted ≡ Some (at, now)
      → header_opened is_element key noted ≡ opened_last is_element at key.1 now
  unfolding header_opened
  opened_at is_element at now led = rw led

-- what follows from an answer's clause
pub if_ok : {A E : Type 0} (r : Result A E) (P Q : A → Type 0) → IfOk r P → ((a : A) → P a → Q a) → IfOk r Q
if_ok (Ok a) P Q h f = f a h
if_ok (Err e) P Q h f = h

-- the parts of a key with dots between, a part more
pub dotted_on : (bytes : List ℕ) (parts : List (String Global)) (last : List ℕ) (i : ℕ) (part : String Global)
    → i < length parts → part ≡ get_or parts i part
    → bytes ++ dotted (path_view (drop i parts)) last
    ≡ ((bytes ++ string_bytes part) ++ 46 ∷ []) ++ dotted (path_view (drop (i + 1) parts)) last
dotted_on bytes parts last i part low is =
    let rest = dotted (path_view (drop (i + 1) parts)) last in
    let turn : dotted (path_view (drop i parts)) last ≡ string_bytes part ++ 46 ∷ rest =
    at_drop_more (λ ys. dotted (path_view ys) last) parts i part low ∙ rw (← is) in
    rw turn (sym (append_assoc (bytes ++ string_bytes part) (46 ∷ []) rest
    ∙ append_assoc bytes (string_bytes part) (46 ∷ rest)))

pub dotted_end : (parts : List (String Global)) (last : List ℕ) (i : ℕ) → length parts ≤ i
    → dotted (path_view (drop i parts)) last ≡ last
dotted_end parts last i past = at_drop_all (λ ys. dotted (path_view ys) last) parts i past
