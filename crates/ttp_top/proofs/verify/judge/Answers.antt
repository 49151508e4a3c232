use Rattle.ttp_top.proofs.Terms.{refl, trace_file, outside, ends, alone, bytes_came, no_bytes, ttpbench}
use Rattle.ttp_top.specs.Calls.Forms.{judged_ending}
use Rattle.ttp_top.proofs.verify.judge.Goals as goal

pub returns-in-Ok : goal.returns-in-Ok
returns-in-Ok g c =
    let later = outside (g.L.Library.files c.load_trace.new.library) (g.K.Sink.output c.show_outcome.new.out) in
    let shown = rw c.as_slice.ensures.value at c.show_outcome.ensures in
    bytes_came ttpbench (trace_file c.args.trace.now)
    (λ text. ends (judged_ending c.args.wants c.args.list.now c.args.script.now text)) _ _ c.in-Ok.text.items
    c.in-Ok.ensures.ok later (alone c.show_outcome.result) (refl, shown)

pub returns-in-Err : goal.returns-in-Err
returns-in-Err g c =
    no_bytes ttpbench (trace_file c.args.trace.now)
    (λ text. ends (judged_ending c.args.wants c.args.list.now c.args.script.now text)) _ _ c.in-Err.status
    c.in-Err.ensures.err
