use Rattle.hypothesis.proofs.Words.{told_start, back_course}
use Rattle.hypothesis.proofs.back_walk.back_over.Goals as goal

pub returns-clause-walk : goal.returns-clause-walk
returns-clause-walk c =
    c.walk_with.ensures (back_course c.args.list.now c.args.script.now (told_start c.args.start))
    c.requires.walked c.back_faults_in-faults.ensures.faults
