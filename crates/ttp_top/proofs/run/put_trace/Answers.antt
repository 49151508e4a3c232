use Rattle.ttp_top.proofs.Scripts.Traces.{all_written, trace_shown}
use Rattle.ttp_top.proofs.run.put_trace.Goals as goal

pub returns-in-Ok : goal.returns-in-Ok
returns-in-Ok g c =
    let before = c.args.cluster.now in
    let list_is = c.in-Ok.ensures.list in
    let script_is = c.in-Ok.ensures.script in
    let w = all_written before.list before.script (g.K.Sink.output c.args.out.now) (g.K.Sink.output c.put_run.new.out)
    c.put_run.new.cluster list_is script_is c.in-Ok.ensures.done c.requires.valid c.requires.script c.in-Ok.ensures.ok
    in
    let says = rw (c.list.ensures.value, list_is, c.script.ensures.value, script_is) at c.show_keep.ensures in
    trace_shown before.list before.script (g.K.Sink.output c.args.out.now) (g.K.Sink.output c.put_run.new.out)
    (g.K.Sink.output c.show_keep.new.out) c.put_run.new.cluster c.show_keep.result c.requires.valid c.requires.script w
    says
