use Rattle.hypothesis.proofs.Words.{rules}
use Rattle.hypothesis.proofs.FarJumps.{undisturbed}
use Rattle.hypothesis.proofs.keeps.Goals as goal

pub started_keep-requires-clause-inside : goal.started_keep-requires-clause-inside
started_keep-requires-clause-inside c = undisturbed c.args.list.now c.args.script.now (search rules)
