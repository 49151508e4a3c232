use Rattle.ttp_top.proofs.Terms.{[], refl, inl, inr, Wrote-none}
use Rattle.ttp_top.proofs.run.show_trace.Goals as goal

pub returns-in-Ok : goal.returns-in-Ok
returns-in-Ok g c =
    let shows = rw (c.in-Ok.ensures.list, c.in-Ok.ensures.script) at c.put_trace-status.ensures in
    rw c.keep_after.ensures shows

pub returns-in-Err : goal.returns-in-Err
returns-in-Err g c =
    rw c.requires.none
    (inr (record {
      status = refl;
      text = record { lines = []; among = inl refl; wrote = Wrote-none (g.K.Sink.output c.args.out.now) };
      none = refl;
    }))
