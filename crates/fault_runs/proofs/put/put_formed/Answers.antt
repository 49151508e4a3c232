use Rattle.fault_runs.proofs.Words.{[]}
use Rattle.fault_runs.proofs.Endings.{fewer-none}
use Rattle.fault_runs.proofs.put.put_formed.Goals as goal

pub returns-in-Err-clause-err : goal.returns-in-Err-clause-err
returns-in-Err-clause-err g c = λ line formed. fewer-none _ line []
