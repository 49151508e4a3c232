use Rattle.std.proofs.Common.{sym, ◌∙◌, append-nil, List, ◌++◌, ap}
use Rattle.toml.specs.View.{items_view}
use Rattle.medl_text.specs.ListFile.{tables_of}
use Rattle.list_errors.proofs.FromBelow.{length-tables_of}
use Rattle.list_errors.specs.declared.error.Wrong.{Wrong}
use Rattle.list_errors.proofs.Told.{no_syncs}
use Rattle.list_errors.proofs.file.tell_sync.Goals as goal

pub returns-then-not-is_count : goal.returns-then-not-is_count
returns-then-not-is_count c =
    let tables = tables_of (items_view c.args.elements.now) in
    sym (append-nil c.args.wrongs.now)
    ∙ ap (λ (w : List Wrong). c.args.wrongs.now ++ w)
    (sym (no_syncs tables _ (length-tables_of c.args.elements.now) (sym c.is_count.ensures ∙ c.if-not-is_count.true)))
