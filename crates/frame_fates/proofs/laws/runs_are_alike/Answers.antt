use Rattle.frame_fates.proofs.RunsAlike.{runs-pasts, runs-clocks, runs-entries, runs-deliveries, runs-received}
use Rattle.frame_fates.proofs.RunsAlike.{runs-status}
use Rattle.frame_fates.proofs.laws.runs_are_alike.Goals as goal

pub returns-clause-entries : goal.returns-clause-entries
returns-clause-entries c = runs-entries

pub returns-clause-pasts : goal.returns-clause-pasts
returns-clause-pasts c list script one other k runs = (runs-pasts list script one other runs).pasts k

pub returns-clause-clocks : goal.returns-clause-clocks
returns-clause-clocks c = runs-clocks

pub returns-clause-deliveries : goal.returns-clause-deliveries
returns-clause-deliveries c = runs-deliveries

pub returns-clause-received : goal.returns-clause-received
returns-clause-received c = runs-received

pub returns-clause-status : goal.returns-clause-status
returns-clause-status c = runs-status
