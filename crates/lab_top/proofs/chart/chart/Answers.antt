use Rattle.std.proofs.Common.{codes, refl}
use Rattle.commands.specs.Plan.{outside, ends}
use Rattle.commands.specs.Texts.{alone}
use Rattle.lab_top.proofs.FromBelow.{bytes_came, no_bytes}
use Rattle.lab_top.specs.Forms.{viewed_ending}
use Rattle.lab_top.specs.Texts.{ttplab}
use Rattle.lab_top.specs.Views.{chart_view, text_file, viewed}
use Rattle.lab_top.proofs.chart.chart.Goals as goal

pub returns-in-Ok : goal.returns-in-Ok
returns-in-Ok g c =
    let later = outside (g.L.Library.files c.load_text.new.library) (g.K.Sink.output c.show_chart.new.out) in
    let shown = rw c.as_slice.ensures.value at c.show_chart.ensures in
    bytes_came ttplab (text_file (codes "campaign") c.args.campaign.now)
    (λ text. ends (viewed_ending (chart_view c.args.asked) (viewed (chart_view c.args.asked) text))) _ _
    c.in-Ok.text.items c.in-Ok.ensures.ok later (alone c.show_chart.result) (refl, shown)

pub returns-in-Err : goal.returns-in-Err
returns-in-Err g c =
    no_bytes ttplab (text_file (codes "campaign") c.args.campaign.now)
    (λ text. ends (viewed_ending (chart_view c.args.asked) (viewed (chart_view c.args.asked) text))) _ _
    c.in-Err.status c.in-Err.ensures.err
