use Rattle.reduced_runs.proofs.AllNamed.{alone-own}
use Rattle.reduced_runs.proofs.laws.all_lines_suffice.Goals as goal

pub returns : goal.returns
returns c = alone-own c.args.list.now c.args.script.now c.args.lines.now c.requires
