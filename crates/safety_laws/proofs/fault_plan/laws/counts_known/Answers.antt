use Rattle.safety_laws.proofs.Counts.{bad-own, bad-first, seen-round, four-lasting, four-measured}
use Rattle.safety_laws.proofs.Ledgers.{ledger-told}
use Rattle.safety_laws.proofs.fault_plan.laws.counts_known.Goals as goal

pub returns-clause-ledger : goal.returns-clause-ledger
returns-clause-ledger c = ledger-told

pub returns-clause-bad : goal.returns-clause-bad
returns-clause-bad c = bad-own

pub returns-clause-bad_at_first : goal.returns-clause-bad_at_first
returns-clause-bad_at_first c = bad-first

pub returns-clause-seen : goal.returns-clause-seen
returns-clause-seen c = seen-round

pub returns-clause-lasting : goal.returns-clause-lasting
returns-clause-lasting c = four-lasting

pub returns-clause-measured : goal.returns-clause-measured
returns-clause-measured c = four-measured
