use Rattle.single_faults.proofs.Valid.{with_fault-valid, all-bounded, may-bounded}
use Rattle.single_faults.proofs.laws.more_is_valid.Goals as goal

pub returns-clause-valid : goal.returns-clause-valid
returns-clause-valid c =
    with_fault-valid c.args.list.now c.args.script.now c.args.fault.now
    c.requires.script c.requires.fault c.requires.room

pub returns-clause-events : goal.returns-clause-events
returns-clause-events c =
    all-bounded c.args.list.now c.args.script.now c.args.script.now.events c.requires.script.events

pub returns-clause-fault : goal.returns-clause-fault
returns-clause-fault c = may-bounded c.args.list.now c.args.script.now c.args.fault.now c.requires.fault
