use Rattle.cluster_run.proofs.Words.{legal-after}
use Rattle.cluster_run.proofs.laws.legal_slots.Goals as goal

pub returns : goal.returns
returns c = legal-after
