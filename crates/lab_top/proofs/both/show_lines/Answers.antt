use Rattle.lab_top.proofs.LinesPromises.{shows_all}
use Rattle.lab_top.proofs.both.show_lines.Goals as goal

pub returns-in-Ok : goal.returns-in-Ok
returns-in-Ok g c =
    shows_all (g.F.LinesOf.lines c.args.form.now c.args.list.now c.args.script.now) (g.K.Sink.output c.args.out.now)
    (g.K.Sink.output c.put.new.out) c.in-Ok.ensures.ok
