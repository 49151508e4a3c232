use Rattle.ttp_base.proofs.Puts.{puts_both}
use Rattle.picture_text.proofs.picture.put_rows.Goals as goal

pub returns : goal.returns
returns g c = puts_both (puts_both c.put_bands.ensures c.put_all_cells.ensures) c.put_all_beside.ensures
