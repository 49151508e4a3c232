use Rattle.std.proofs.Common.{refl}
use Rattle.commands.specs.Files.{trace_file}
use Rattle.commands.specs.Plan.{outside, ends}
use Rattle.commands.specs.Texts.{alone}
use Rattle.lab_top.proofs.FromBelow.{bytes_came, no_bytes}
use Rattle.lab_top.specs.Forms.{frames_ending}
use Rattle.lab_top.specs.Texts.{ttplab}
use Rattle.lab_top.proofs.frames.judge.Goals as goal

pub returns-in-Ok : goal.returns-in-Ok
returns-in-Ok g c =
    let later = outside (g.L.Library.files c.load_trace.new.library) (g.K.Sink.output c.show_outcome.new.out) in
    let shown = rw c.as_slice.ensures.value at c.show_outcome.ensures in
    bytes_came ttplab (trace_file c.args.trace.now)
    (λ text. ends (frames_ending c.args.list.now c.args.script.now text)) _ _
    c.in-Ok.text.items c.in-Ok.ensures.ok later (alone c.show_outcome.result) (refl, shown)

pub returns-in-Err : goal.returns-in-Err
returns-in-Err g c =
    no_bytes ttplab (trace_file c.args.trace.now)
    (λ text. ends (frames_ending c.args.list.now c.args.script.now text)) _ _
    c.in-Err.status c.in-Err.ensures.err
