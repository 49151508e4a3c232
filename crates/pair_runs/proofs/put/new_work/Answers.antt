use Rattle.pair_runs.proofs.Owns.{seen-of, own-of}
use Rattle.pair_runs.proofs.put.new_work.Goals as goal

pub returns : goal.returns
returns c = record {
  run = seen-of c.in_ok-new.field-0 c.args.list.now c.args.script.now 0 c.in_ok-new.ensures;
  past = own-of c.in_ok-new-2.field-0 c.args.list.now c.args.script.now 0 c.in_ok-new-2.ensures;
}
