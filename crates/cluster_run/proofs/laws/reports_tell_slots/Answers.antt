use Rattle.cluster_run.proofs.ReportTexts.{tells_next}
use Rattle.cluster_run.proofs.laws.reports_tell_slots.Goals as goal

pub returns : goal.returns
returns c = tells_next
