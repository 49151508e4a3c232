use Rattle.single_faults.proofs.ForAbove.{all-bounded}
use Rattle.reduced_runs.proofs.Valid.{with_faults_at-valid}
use Rattle.reduced_runs.proofs.laws.fewer_is_valid.Goals as goal

pub returns-clause-valid : goal.returns-clause-valid
returns-clause-valid c =
    with_faults_at-valid c.args.list.now c.args.script.now c.args.places.now c.requires

pub returns-clause-events : goal.returns-clause-events
returns-clause-events c =
    all-bounded c.args.list.now c.args.script.now c.args.script.now.events c.requires.events
