use Rattle.ttp_top.proofs.Terms.{on_ok_weaker}
use Rattle.std.proofs.lemmas.Result.{IfErr-weaker}
use Rattle.ttp_top.proofs.Scripts.Slots.{head_written, head_cut}
use Rattle.ttp_top.proofs.trace.put_run.Goals as goal

pub returns-in_default-clause-fault : goal.returns-in_default-clause-fault
returns-in_default-clause-fault g c =
    let cut = rw (c.list.ensures.value, c.script.ensures.value) at c.in_default.ensures.failed in
    head_cut c.args.cluster.now.list c.args.cluster.now.script (g.K.Sink.output c.args.out.now)
    (g.K.Sink.output c.put_header.new.out) c.requires.valid c.requires.script cut

pub run-requires-clause-follows : goal.run-requires-clause-follows
run-requires-clause-follows g c κs within =
    let wrote = rw (c.list.ensures.value, c.script.ensures.value) at c.in-Ok.ensures.ok in (
      g.K.Sink.output c.args.out.now,
      head_written c.args.cluster.now (g.K.Sink.output c.args.out.now) (g.K.Sink.output c.put_header.new.out)
          c.requires.new wrote,
    )

pub returns-clause-ok : goal.returns-clause-ok
returns-clause-ok g c =
    let wrote = rw (c.list.ensures.value, c.script.ensures.value) at c.in-Ok.ensures.ok in
    let begun = head_written c.args.cluster.now (g.K.Sink.output c.args.out.now) (g.K.Sink.output c.put_header.new.out)
    c.requires.new wrote in
    on_ok_weaker c.run.result (λ ok. ok (g.K.Sink.output c.args.out.now) begun) c.run.ensures.ok

pub returns-clause-fault : goal.returns-clause-fault
returns-clause-fault g c =
    let wrote = rw (c.list.ensures.value, c.script.ensures.value) at c.in-Ok.ensures.ok in
    let begun = head_written c.args.cluster.now (g.K.Sink.output c.args.out.now) (g.K.Sink.output c.put_header.new.out)
    c.requires.new wrote in
    IfErr-weaker c.run.result _ _ (λ fault left. left (g.K.Sink.output c.args.out.now) begun) c.run.ensures.fault
