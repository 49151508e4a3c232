-- How a result stands to what the definitions give.
use Rattle.std.specs.Prelude.{◌≡◌, ℕ, ◌<◌, List, length, Option, Some, None, option_and_then, Result}
use Rattle.std.specs.Prelude.{Ok, Err, MatchResult, IfOk, Bool, true, false, slice_get, String}
use Rattle.std.specs.Borrow.{Bor}
use Rattle.std.specs.declared.alloc.Global.{Global}
use Rattle.std.specs.BTreeMap.{BTreeMap, get_by_text}
use Rattle.toml_walk.specs.declared.halt.Halt.{Halt}
use Rattle.toml_walk.specs.declared.halt.Halt.TheVariants as halts
use Rattle.toml_walk.specs.declared.halt.Halted.{Halted}
use Rattle.toml_walk.specs.declared.names.Names.{Names}
use Rattle.toml_walk.specs.declared.names.Holds.{Holds}
use Rattle.toml_walk.specs.declared.names.Holds.TheVariants as holds
use Rattle.toml_walk.specs.Names.{Noted, Leads, held_by}

-- the reading stops here, unless memory was refused
abbrev pub StopsAt : Halt → Halted → Type 0
StopsAt h expected = (x : Halted) → h ≡ halts.Stop x → x ≡ expected

-- this was read, or the reading stops there, unless memory was refused
abbrev pub Walks : {A B : Type 0} → (A → B) → Result A Halt → Result B Halted → Type 0
Walks f r expected = MatchResult r (λ a. expected ≡ Ok (f a)) (λ h. (x : Halted) → h ≡ halts.Stop x → expected ≡ Err x)

-- less text is left
abbrev pub Shortens : {A : Type 0} → List ℕ → Result (A × Bor (List ℕ)) Halt → Type 0
Shortens text r = IfOk r (λ p. length p.1.now < length text)

-- The number of each table that a key leads to is that of a table that came up.
abbrev pub table_number : Holds → ℕ
table_number holds.Value = 0
table_number (holds.Table origin number) = number
table_number (holds.Array last) = last

-- what a key of a table holds in tables of the code
abbrev pub kept_by : List (BTreeMap (String Global) Holds) → ℕ → List ℕ → Option Holds
kept_by tables t k = option_and_then (λ table. get_by_text table k) (slice_get tables t)

-- names stand for what was noted: for each table, what its keys hold
pub record NamesStandFor (names : Names) (noted : Noted) : Type 0 where
  pub count : length names.tables.items ≡ noted.tables
  pub root : 0 < noted.tables
  pub held : (t : ℕ) (k : List ℕ) → kept_by names.tables.items t k ≡ held_by t k noted.names
  pub within : (t : ℕ) (k : List ℕ) (h : Holds) → held_by t k noted.names ≡ Some h → table_number h < noted.tables

-- a key leads to this table, and the names stand for what is noted then; or the rules forbid it
abbrev pub LeadsTo : Option ℕ → Names → Leads → Type 0
LeadsTo None names leads = leads ≡ None
LeadsTo (Some t) names leads =
    (noted : Noted) × (leads ≡ Some (t, noted)) × NamesStandFor names noted × (t < noted.tables)

-- a value was noted at a key, or the rules forbid it
abbrev pub PutsAt : Bool → Names → Option Noted → Type 0
PutsAt false names expected = expected ≡ None
PutsAt true names expected = (noted : Noted) × (expected ≡ Some noted) × NamesStandFor names noted
