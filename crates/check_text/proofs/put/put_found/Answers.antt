use Rattle.std.proofs.Common.{◌+◌, option_map, sym, subst, ◌∙◌}
use Rattle.check_text.specs.Check.{check_found, named_by}
use Rattle.check_text.specs.Found.{side_lines}
use Rattle.check_text.specs.Page.{PutsOn}
use Rattle.check_text.specs.Sides.{list_side_lines, asked_answer}
use Rattle.check_text.proofs.Pages.{puts_then}
use Rattle.check_text.proofs.Sides.{side_count, whole, both_counts}
use Rattle.check_text.proofs.put.put_found.Goals as goal

pub returns : goal.returns
returns g c =
    let file = named_by c.args.list in
    let script = option_map named_by c.args.script in
    let found = c.args.found.now in
    let lines = list_side_lines file.name found.list in
    let others = side_lines script found.beside.script in
    let counted = c.len-list_count.ensures ∙ sym (side_count file.name found.list) in
    let counts = both_counts _ _ _ _ counted c.script_count-script_count.ensures in
    let texts = rw c.as_slice.ensures at c.put_texts.ensures in
    subst (PutsOn c.args.page.now.ended (g.K.Sink.output c.args.out.now) c.put_last_line.new.page.ended
    (g.K.Sink.output c.put_last_line.new.out))
    (whole (check_found file script) lines others found.beside.rules.lines (asked_answer found.beside.rules.answer)
    (c.len-list_count.result + c.script_count-script_count.result)
    c.requires.list c.requires.beside.lines c.requires.beside.warnings c.requires.beside.answer counts)
    (puts_then _ _ _ _ _ _ _ _ c.put_list_lines.ensures
    (puts_then _ _ _ _ _ _ _ _ c.put_script_lines.ensures
    (puts_then _ _ _ _ _ _ _ _ texts c.put_last_line.ensures)))
