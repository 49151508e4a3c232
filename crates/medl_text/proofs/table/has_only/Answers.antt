use Rattle.std.proofs.Common.{◌∙◌}
use Rattle.medl_text.proofs.Tables.{has_only-entries}
use Rattle.medl_text.proofs.table.has_only.Goals as goal

pub returns : goal.returns
returns c = c.all_among.ensures ∙ has_only-entries c.args.known.now c.args.table.now.entries
