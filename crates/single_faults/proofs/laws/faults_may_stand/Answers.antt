use Rattle.single_faults.proofs.Stand.{faults_from-stand}
use Rattle.single_faults.proofs.laws.faults_may_stand.Goals as goal

pub returns : goal.returns
returns c = λ history first last.
    faults_from-stand c.args.list.now c.args.script.now history first last c.requires
