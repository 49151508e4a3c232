use Rattle.margin_laws.proofs.Added.{sweep-counted}
use Rattle.margin_laws.proofs.laws.counts_add_up.Goals as goal

pub returns : goal.returns
returns c = λ reach sweep. sweep-counted c.args.list.now c.args.script.now reach sweep
