use Rattle.std.proofs.Common.{length, option_map, ap, sym, ◌∙◌}
use Rattle.ttp_base.specs.Text.{Lines}
use Rattle.check_text.specs.Check.{check_found, named_by}
use Rattle.check_text.proofs.Sides.{side_count}
use Rattle.check_text.proofs.Written.{check_fewer}
use Rattle.check_text.proofs.put.put_check.Goals as goal

pub returns-in_default-clause-left : goal.returns-in_default-clause-left
returns-in_default-clause-left g c = check_fewer _ (named_by c.args.list) (option_map named_by c.args.script)

pub returns-in-Ok-end-clause-status : goal.returns-in-Ok-end-clause-status
returns-in-Ok-end-clause-status g c =
    let file = named_by c.args.list in
    let script = option_map named_by c.args.script in
    let told = check_found file script in
    let is = c.in-Ok.ensures in
    let size = λ (ls : Lines). length ls in
    c.status_of.ensures told.list told.script told.warnings
    (ap size (sym is.list) ∙ side_count file.name c.in-Ok.found.list ∙ sym c.len.ensures)
    (ap size (sym is.beside.lines) ∙ sym c.script_count.ensures)
    (ap size (sym is.beside.warnings) ∙ sym c.len-in-Ok-end.ensures)
