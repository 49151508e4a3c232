use Rattle.std.proofs.Common.{get_or}
use Rattle.list_errors.specs.declared.error.Wrong.TheVariants as wrongs
use Rattle.check_text.specs.Lines.{list_line, nth_place}
use Rattle.check_text.proofs.Pages.{puts_none, puts_next}
use Rattle.check_text.proofs.put.put_list_lines.Goals as goal

pub loop-i-init : goal.loop-i-init
loop-i-init g c = puts_none _ _

pub loop-i-preserved : goal.loop-i-preserved
loop-i-preserved g c =
    let side = c.args.side.now in
    puts_next _ _ _ _ _ _
    (λ i. list_line c.args.name.now side.measures.rounds side.measures.modes side.stop (nth_place side.places i)
    (get_or side.wrongs i wrongs.NotToml))
    c.loop-i.i c.loop-i.invariant c.put_list_line.ensures
