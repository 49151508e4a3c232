use Rattle.std.proofs.Common.{refl}
use Rattle.std.specs.Fmt.{digits}
use Rattle.medl_text.specs.Schedule.{slot_table, table_head, slot_line}
use Rattle.world_rows.proofs.list_files.tables.Goals as goal

pub returns : goal.returns
unfolding slot_table table_head slot_line digits
returns c = record { four_nodes = refl; mixed = refl }
