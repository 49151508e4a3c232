use Rattle.std.proofs.Common.{◌≡◌, ◌++◌, true, drop}
use Rattle.toml.specs.View.{items_view}
use Rattle.medl_text.specs.ListFile.{are_tables, tables_of}
use Rattle.list_errors.specs.Errors.{unknown_keys_in_slots}
use Rattle.list_errors.proofs.file.tell_unknown_in.Given as goal

-- the slots so far were told, so that what is left decides
abbrev pub invariant-loop-k : goal.invariant-loop-k
invariant-loop-k l =
    (are_tables (items_view (drop l.k l.looked_at)) ≡ true)
    × (l.fn.wrongs ++ unknown_keys_in_slots 0 (tables_of (items_view l.looked_at))
    ≡ l.wrongs ++ unknown_keys_in_slots l.k (tables_of (items_view (drop l.k l.looked_at))))
