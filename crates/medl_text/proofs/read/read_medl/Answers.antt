use Rattle.toml.specs.View.{table_view}
use Rattle.medl_text.proofs.Valid.{read_valid}
use Rattle.medl_text.proofs.read.read_medl.Goals as goal

pub returns-clause-valid : goal.returns-clause-valid
returns-clause-valid c =
    read_valid c.list_in.result (table_view c.in_ok-file.file) c.list_in.ensures.ok c.list_in.ensures.value
