use Rattle.std.proofs.Common.{◌≡◌, true, drop}
use Rattle.toml.specs.View.{items_view}
use Rattle.medl_text.specs.ListFile.{are_tables, tables_of, unknown_in_slots}
use Rattle.medl_text.proofs.read.unknown_in.Given as goal

-- the slots so far have known keys only, so what is left decides
abbrev pub invariant-loop-k : goal.invariant-loop-k
invariant-loop-k l =
    (are_tables (items_view (drop l.k l.elements)) ≡ true)
    × (unknown_in_slots 0 (tables_of (items_view l.elements))
    ≡ unknown_in_slots l.k (tables_of (items_view (drop l.k l.elements))))
