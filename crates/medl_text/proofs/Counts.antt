-- How many elements there are, however they are seen.
use Rattle.std.proofs.Common.{◌≡◌, ℕ, suc, List, [], ◌∷◌, length, refl, ap}
use Rattle.toml.specs.Data.{Members}
use Rattle.toml.specs.View.{items_view}
use Rattle.toml.specs.declared.value.Value.{Value}
use Rattle.medl_text.specs.ListFile.{tables_of, plans_of}

pub length-tables_of : (vs : List Value) → length (tables_of (items_view vs)) ≡ length vs
length-tables_of [] = refl
length-tables_of (v ∷ vs) = ap suc (length-tables_of vs)

pub length-plans_of : (modes k : ℕ) (tables : List Members) → length (plans_of modes k tables) ≡ length tables
length-plans_of modes k [] = refl
length-plans_of modes k (table ∷ tables) = ap suc (length-plans_of modes (suc k) tables)

pub ruleset counts = (length-tables_of, length-plans_of)
