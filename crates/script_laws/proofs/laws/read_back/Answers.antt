use Rattle.script_laws.proofs.Scripts.{read_back-law}
use Rattle.script_laws.proofs.laws.read_back.Goals as goal

pub returns : goal.returns
returns c = record { law = λ list slots number valid some few. read_back-law list slots number valid some few }
