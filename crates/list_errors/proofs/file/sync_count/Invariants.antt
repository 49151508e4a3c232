use Rattle.std.proofs.Common.{◌≡◌, ◌≤◌, ◌+◌, true, drop}
use Rattle.std.specs.Prelude.{option_map}
use Rattle.toml.specs.View.{items_view}
use Rattle.medl_text.specs.ListFile.{are_tables, tables_of}
use Rattle.list_errors.specs.Errors.{sync_count}
use Rattle.list_errors.proofs.file.sync_count.Given as goal

-- the slots so far were with_sync, so that what is left decides
abbrev pub invariant-loop-k : goal.invariant-loop-k
invariant-loop-k l =
    (are_tables (items_view (drop l.k l.elements)) ≡ true) × (l.count ≤ l.k)
    × (sync_count 0 (tables_of (items_view l.elements))
    ≡ option_map (λ n. l.count + n) (sync_count l.k (tables_of (items_view (drop l.k l.elements)))))
