use Rattle.std.proofs.Common.{codes, refl}
use Rattle.commands.specs.Plan.{outside, ends}
use Rattle.commands.specs.Texts.{alone}
use Rattle.lab_top.proofs.FromBelow.{bytes_came, no_bytes}
use Rattle.lab_top.specs.Forms.{viewed_ending}
use Rattle.lab_top.specs.Texts.{ttplab}
use Rattle.lab_top.specs.Views.{wave_view, text_file, viewed}
use Rattle.lab_top.proofs.wave.wave.Goals as goal

pub returns-in-Ok : goal.returns-in-Ok
returns-in-Ok g c =
    let later = outside (g.L.Library.files c.load_trace.new.library) (g.K.Sink.output c.show_wave.new.out) in
    let shown = rw c.as_slice.ensures.value at c.show_wave.ensures in
    bytes_came ttplab (text_file (codes "trace") c.args.trace.now)
    (λ text. ends (viewed_ending wave_view (viewed wave_view text))) _ _
    c.in-Ok.text.items c.in-Ok.ensures.ok later (alone c.show_wave.result) (refl, shown)

pub returns-in-Err : goal.returns-in-Err
returns-in-Err g c =
    no_bytes ttplab (text_file (codes "trace") c.args.trace.now)
    (λ text. ends (viewed_ending wave_view (viewed wave_view text))) _ _
    c.in-Err.status c.in-Err.ensures.err
