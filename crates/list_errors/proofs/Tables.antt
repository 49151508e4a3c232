-- The first of some values, as tables.
use Rattle.std.proofs.Common.{◌≡◌, ℕ, zero, suc, ◌≤◌, true, List, [], ◌∷◌, length, take, refl, ap, sym, arith}
use Rattle.std.specs.Option.{is_some}
use Rattle.std.proofs.lemmas.Bool.{and_parts}
use Rattle.std.proofs.lemmas.List.{take_all}
use Rattle.toml.specs.Data.{Members, as_table}
use Rattle.toml.specs.View.{view, items_view}
use Rattle.toml.specs.declared.value.Value.{Value}
use Rattle.medl_text.specs.ListFile.{are_tables, tables_of, element_of}
use Rattle.list_errors.proofs.FromBelow.{length-tables_of}

pub tables_of-take : (n : ℕ) (vs : List Value) → tables_of (items_view (take n vs)) ≡ take n (tables_of (items_view vs))
tables_of-take zero vs = refl
tables_of-take (suc n) [] = refl
tables_of-take (suc n) (v ∷ vs) = ap (λ (ms : List Members). element_of (view v) ∷ ms) (tables_of-take n vs)

pub are_tables-take : (n : ℕ) (vs : List Value) → are_tables (items_view vs) ≡ true
    → are_tables (items_view (take n vs)) ≡ true
are_tables-take zero vs h = refl
are_tables-take (suc n) [] h = refl
are_tables-take (suc n) (v ∷ vs) h =
    let both = and_parts (is_some (as_table (view v))) (are_tables (items_view vs)) h in
    rw (both.0, are_tables-take n vs both.1) refl

-- where there are no more, these are all
pub all_tables : (n : ℕ) (vs : List Value) → length vs ≤ n
    → tables_of (items_view vs) ≡ take n (tables_of (items_view vs))
all_tables n vs h = sym (take_all n (tables_of (items_view vs)) (omega (arith, length-tables_of vs)))

pub ruleset looked = (tables_of-take, are_tables-take, all_tables)
