use Rattle.ttp_base.proofs.Puts.{puts_two}
use Rattle.picture_text.proofs.cells.put_clocks_cells.Goals as goal

pub returns : goal.returns
returns g c =
    puts_two c.make_clocks_cell.ensures c.make_far_cell.ensures c.write.ensures c.write-2.ensures
