use Rattle.fault_runs.proofs.Words.{[], summary, own_line}
use Rattle.fault_runs.proofs.Endings.{fewer-none}
use Rattle.fault_runs.proofs.put.put_own_line.Goals as goal

pub returns-in_default-clause-err : goal.returns-in_default-clause-err
returns-in_default-clause-err g c =
    fewer-none _ (own_line c.args.list.now (summary c.args.list.now c.args.script.now)) []
