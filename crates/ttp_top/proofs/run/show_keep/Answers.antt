use Rattle.ttp_top.proofs.Scripts.Tests.{keep_said, keep_cut}
use Rattle.ttp_top.proofs.run.show_keep.Goals as goal

pub returns-in-Ok : goal.returns-in-Ok
returns-in-Ok g c =
    let wrote = rw c.keeps.ensures at c.in-Ok.ensures.ok in
    keep_said c.args.list.now c.args.script.now (g.K.Sink.output c.args.out.now) (g.K.Sink.output c.put_keep.new.out)
    (g.K.Sink.output c.show_back.new.out) c.show_back.result wrote c.show_back.ensures

pub returns-in-Err : goal.returns-in-Err
returns-in-Err g c =
    let cut = rw c.keeps.ensures at c.in-Err.ensures.failed in
    keep_cut c.args.list.now c.args.script.now (g.K.Sink.output c.args.out.now) (g.K.Sink.output c.put_keep.new.out) cut
