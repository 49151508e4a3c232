use Rattle.ttp_top.proofs.Terms.{refl, outside, ends, answer, pair_came, no_pair, ttpbench, trace_ending}
use Rattle.ttp_top.proofs.run.run.Goals as goal

pub returns-in-Ok : goal.returns-in-Ok
returns-in-Ok g c =
    let later = outside (g.L.Library.files c.load_both.new.library) (g.K.Sink.output c.show_trace.new.out) in
    pair_came ttpbench c.args.list.now c.args.script.now (λ medl right. ends (trace_ending medl right)) _ _ c.in-Ok.medl
    c.in-Ok.right c.in-Ok.ensures.ok later
    (answer c.show_trace.result c.show_trace.new.kept) (refl, c.show_trace.ensures)

pub returns-in-Err : goal.returns-in-Err
returns-in-Err g c =
    rw c.requires
    (no_pair ttpbench c.args.list.now c.args.script.now (λ medl right. ends (trace_ending medl right)) _ _
    c.in-Err.status c.in-Err.ensures.err)
