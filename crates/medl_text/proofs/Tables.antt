-- Values and tables of a document, one after another.
use Rattle.std.proofs.Common.{◌≡◌, ◌&&◌, true, ℕ, ◌+◌, ◌<◌, List, [], ◌∷◌, ◌++◌, length, get_or, drop, String, Global}
use Rattle.std.proofs.Common.{string_bytes, refl, ap, sym, ◌∙◌}
use Rattle.std.specs.Option.{is_some}
use Rattle.std.specs.List.{list_all}
use Rattle.std.specs.Map.{keys_of}
use Rattle.toml.specs.Data.{as_table}
use Rattle.toml.specs.View.{view, items_view, members_view}
use Rattle.toml.specs.declared.value.Value.{Value}
use Rattle.toml.proofs.Views.{items_view-drop}
use Rattle.ttp_world.specs.declared.medl.SlotPlan.{SlotPlan}
use Rattle.medl_text.specs.declared.error.FieldName.{FieldName}
use Rattle.medl_text.specs.ListFile.{are_tables, tables_of, slots_faults, plans_of, is_known_key, has_only}

-- one value more is a table, and the rest are
pub are_tables-drop : (vs : List Value) (i : ℕ) (v : Value) → i < length vs → v ≡ get_or vs i v
    → are_tables (items_view (drop i vs)) ≡ (is_some (as_table (view v)) && are_tables (items_view (drop (i + 1) vs)))
are_tables-drop vs i v h here =
    ap are_tables (items_view-drop vs i v h)
    ∙ ap (λ (w : Value). is_some (as_table (view w)) && are_tables (items_view (drop (i + 1) vs))) (sym here)

-- the keys of a table are those of its entries
pub has_only-entries : (known : List FieldName) (es : List (String Global × Value))
    → list_all (λ key. is_known_key known (string_bytes key)) (keys_of es) ≡ has_only known (members_view es)
has_only-entries known [] = refl
has_only-entries known (e ∷ es) = ap (λ rest. is_known_key known (string_bytes e.0) && rest) (has_only-entries known es)

-- The first slots have no fault and were read, so that what is left decides.
pub record AreRead (rounds modes : ℕ) (vs : List Value) (plans : List SlotPlan) (k : ℕ) : Type 0 where
  pub tables : are_tables (items_view (drop k vs)) ≡ true
  pub faults : slots_faults rounds modes 0 (tables_of (items_view vs))
      ≡ slots_faults rounds modes k (tables_of (items_view (drop k vs)))
  pub values : plans_of modes 0 (tables_of (items_view vs))
      ≡ plans ++ plans_of modes k (tables_of (items_view (drop k vs)))
