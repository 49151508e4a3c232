use Rattle.std.proofs.Common.{sym, length}
use Rattle.toml.specs.View.{table_view, items_view}
use Rattle.medl_text.specs.ListFile.{tables_of}
use Rattle.list_errors.proofs.FromBelow.{length-tables_of}
use Rattle.list_errors.proofs.Told.{table_told}
use Rattle.list_errors.proofs.file.tell_table.Goals as goal

pub returns-clause-told : goal.returns-clause-told
returns-clause-told c =
    let slots = c.in-Some.slots.now in
    table_told (table_view c.args.file.now) c.in_ok-top.top.version c.in_ok-top.top.measures.rounds
    c.in_ok-top.top.measures.modes (tables_of (items_view slots)) (tables_of (items_view c.looked_at-seen.result.now))
    (length slots) c.args.wrongs.now c.tell_top.new.wrongs c.tell_count.new.wrongs c.tell_slots.new.wrongs
    c.tell_unknown_at_top-2.new.wrongs c.tell_unknown_in.new.wrongs c.tell_sync.new.wrongs
    c.in_ok-top.ensures.version c.in_ok-top.ensures.rounds c.in_ok-top.ensures.modes
    (rw c.in-Some.is at c.in_ok-top.ensures.slots) c.looked_at-seen.ensures.value (sym (length-tables_of slots))
    c.in_ok-top.ensures.told c.in_ok-tell_count.ensures c.in_ok-tell_slots.ensures c.in_ok-tell_unknown_at_top-2.ensures
    c.in_ok-tell_unknown_in.ensures c.in_ok-tell_sync.ensures
