-- Names stand for what is noted: what each change of the tables keeps.
use Rattle.std.proofs.Common.{◌≡◌, ℕ, zero, suc, ◌+◌, ◌<◌, ◌≤◌, Bool, true, false, ◌&&◌, ◌==◌, cond, List}
use Rattle.std.proofs.Common.{[], ◌∷◌, ◌++◌, length, length-append, length-set, get_or, set, Option}
use Rattle.std.proofs.Common.{Some, None, String, Global, BTreeMap, ⊎_elim, refl, ap, ◌∙◌, arith}
use Rattle.std.proofs.lemmas.Bool.{cases_eq}
use Rattle.std.proofs.lemmas.Bool.Decides.{nat_tests}
use Rattle.std.proofs.lemmas.Option.{slice_get_past, slice_get_read}
use Rattle.std.specs.BTreeMap.{get_by_text}
use Rattle.std.specs.List.{slice_get}
use Rattle.std.specs.Str.{bytes_eq}
use Rattle.toml_walk.specs.declared.names.Names.{Names}
use Rattle.toml_walk.specs.declared.names.Holds.{Holds}
use Rattle.toml_walk.specs.Names.{Noted, nothing_noted, with_table, noting, held_by}
use Rattle.toml_walk.specs.Reading.{NamesStandFor, kept_by, table_number}

abbrev Table : Type 0
Table = BTreeMap (String Global) Holds

one_empty : (m : Table) (t : ℕ) (k : List ℕ) → m.entries ≡ [] → kept_by (m ∷ []) t k ≡ None
one_empty m zero k none = rw none
one_empty m (suc t) k none = refl

-- a table that is empty adds nothing
pub kept_more : (tables : List Table) (m : Table) (t : ℕ) (k : List ℕ) → m.entries ≡ []
    → kept_by (tables ++ m ∷ []) t k ≡ kept_by tables t k
kept_more [] m t k none = one_empty m t k none
kept_more (x ∷ tables) m zero k none = refl
kept_more (x ∷ tables) m (suc t) k none = kept_more tables m t k none

pub stands_new : (names : Names) (m : Table) → names.tables.items ≡ m ∷ [] → m.entries
    ≡ [] → NamesStandFor names nothing_noted
stands_new names m items none = record {
  count = ap length items;
  root = omega arith;
  held = λ t k. rw items (one_empty m t k none);
  within = λ t k h is. absurd (grind arith);
}

pub stands_more : (old new : Names) (m : Table) (noted : Noted) → new.tables.items ≡ old.tables.items ++ m ∷ []
    → m.entries ≡ [] → NamesStandFor old noted → NamesStandFor new (with_table noted)
stands_more old new m noted items none stands = record {
  count =
      let longer : length new.tables.items ≡ length old.tables.items + 1 =
      rw items (length-append old.tables.items (m ∷ [])) in
      omega (arith, stands.count);
  root = omega arith;
  held = λ t k. rw items (kept_more old.tables.items m t k none ∙ stands.held t k);
  within = λ t k h is. omega (arith, stands.within t k h is);
}

-- a table in which one key holds something else
kept_same : (tables : List Table) (m n : Table) (at : ℕ) (key : List ℕ) (h : Holds) (k : List ℕ)
    → slice_get tables at ≡ Some m
    → ((q : List ℕ) → get_by_text n q ≡ cond (bytes_eq key q) (Some h) (get_by_text m q))
    → kept_by (set tables at n) at k ≡ cond (bytes_eq key k) (Some h) (kept_by tables at k)
kept_same [] m n at key h k is new = absurd (grind arith)
kept_same (x ∷ tables) m n zero key h k is new =
    let same : x ≡ m = grind arith in
    rw same (new k)
kept_same (x ∷ tables) m n (suc at) key h k is new = kept_same tables m n at key h k is new

kept_other : (tables : List Table) (n : Table) (at t : ℕ) (k : List ℕ) → (at ≡ t → ⊥)
    → kept_by (set tables at n) t k ≡ kept_by tables t k
kept_other [] n at t k other = refl
kept_other (x ∷ tables) n zero zero k other = absurd (other refl)
kept_other (x ∷ tables) n zero (suc t) k other = refl
kept_other (x ∷ tables) n (suc at) zero k other = refl
kept_other (x ∷ tables) n (suc at) (suc t) k other = kept_other tables n at t k (λ same. other (ap suc same))

pub kept_set : (tables : List Table) (m n : Table) (at : ℕ) (key : List ℕ) (h : Holds) (t : ℕ) (k : List ℕ)
    → slice_get tables at ≡ Some m
    → ((q : List ℕ) → get_by_text n q ≡ cond (bytes_eq key q) (Some h) (get_by_text m q))
    → kept_by (set tables at n) t k ≡ cond ((at == t) && bytes_eq key k) (Some h) (kept_by tables t k)
kept_set tables m n at key h t k is new =
    ⊎_elim
    (λ (same : at ≡ t).
    let here : (at == t) ≡ true = grind (arith, nat_tests) in
    rw here (rw (← same) (kept_same tables m n at key h k is new)))
    (λ (other : at ≡ t → ⊥).
    let there : (at == t) ≡ false = grind (arith, nat_tests) in
    rw there (kept_other tables n at t k other))
    (cases_eq at t)

-- what a look-up finds
pub find_none : (names : Names) (noted : Noted) (t : ℕ) (k : List ℕ) → NamesStandFor names noted
    → length names.tables.items ≤ t → None ≡ held_by t k noted.names
find_none names noted t k stands past =
    let none : slice_get names.tables.items t ≡ None = slice_get_past names.tables.items t past in
    let kept : None ≡ kept_by names.tables.items t k = rw none in
    kept ∙ stands.held t k

pub find_some : (names : Names) (noted : Noted) (t : ℕ) (k : List ℕ) (m : Table) (r : Option Holds)
    → NamesStandFor names noted
    → t < length names.tables.items → m ≡ get_or names.tables.items t m → r ≡ get_by_text m k
    → r ≡ held_by t k noted.names
find_some names noted t k m r stands low is found =
    let some : slice_get names.tables.items t ≡ Some m = slice_get_read names.tables.items _ t m refl low is in
    let kept : get_by_text m k ≡ kept_by names.tables.items t k = rw some in
    found ∙ kept ∙ stands.held t k

held_within : (t : ℕ) (k : List ℕ) (o h : Holds) (noted : Noted) (b : Bool)
    → ((o : Holds) → held_by t k noted.names ≡ Some o → table_number o < noted.tables) → table_number h < noted.tables
    → cond b (Some h) (held_by t k noted.names) ≡ Some o → table_number o < noted.tables
held_within t k o h noted true old low is =
    let same : h ≡ o = grind arith in
    rw (← same) low
held_within t k o h noted false old low is = old o is

pub stands_noting : (old new : Names) (m n : Table) (at : ℕ) (key : List ℕ) (h : Holds) (noted : Noted)
    → new.tables.items ≡ set old.tables.items at n → slice_get old.tables.items at ≡ Some m
    → ((q : List ℕ) → get_by_text n q ≡ cond (bytes_eq key q) (Some h) (get_by_text m q))
    → table_number h < noted.tables → NamesStandFor old noted → NamesStandFor new (noting at key h noted)
stands_noting old new m n at key h noted items is written low stands = record {
  count = rw items (length-set old.tables.items at n ∙ stands.count);
  root = stands.root;
  held = λ t k. rw items (kept_set old.tables.items m n at key h t k is written
      ∙ ap (λ w. cond ((at == t) && bytes_eq key k) (Some h) w) (stands.held t k));
  within = λ t k o got. held_within t k o h noted ((at == t) && bytes_eq key k) (stands.within t k) low got;
}
