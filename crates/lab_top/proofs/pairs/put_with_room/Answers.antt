use Rattle.lab_top.proofs.FromBelow.{fewer-none}
use Rattle.lab_top.proofs.pairs.put_with_room.Goals as goal

pub returns-clause-err : goal.returns-clause-err
returns-clause-err g c = fewer-none (g.K.Sink.output c.args.out.now) _ _
