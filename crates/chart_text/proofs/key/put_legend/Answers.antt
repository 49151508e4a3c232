use Rattle.chart_text.proofs.Words.{puts_below, puts_two}
use Rattle.chart_text.specs.Key.{look_entry}
use Rattle.chart_text.proofs.key.put_legend.Goals as goal

pub loop-number-preserved : goal.loop-number-preserved
loop-number-preserved g c =
    puts_below _ _ _ _ _ _ (look_entry c.args.top) c.loop-number.number c.loop-number.invariant
    (puts_two
    (rw (c.look_at-look.ensures, c.look_corner-at.ensures.x, c.look_corner-at.ensures.y) at c.make_look_cell.ensures)
    (rw (
      c.look_meaning.ensures.text,
      c.look_at-look.ensures,
      c.look_corner-at.ensures.x,
      c.look_corner-at.ensures.y,
    ) at c.make_text.ensures) c.write.ensures c.write-in-loop-number.ensures)
