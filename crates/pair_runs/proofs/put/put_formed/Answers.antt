use Rattle.std.proofs.Common.{[]}
use Rattle.pair_runs.proofs.FromBelow.{fewer-none}
use Rattle.pair_runs.proofs.put.put_formed.Goals as goal

pub returns-in-Err-clause-err : goal.returns-in-Err-clause-err
returns-in-Err-clause-err g c = λ due formed. fewer-none (g.K.Sink.output c.args.out.now) due []
