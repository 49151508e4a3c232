use Rattle.std.proofs.Common.{◌∙◌, ap, Err}
use Rattle.chart_text.specs.Chart.{chart_lines}
use Rattle.chart_text.specs.Columns.{slots_shown}
use Rattle.lab_top.specs.Views.{chart_view, viewed}
use Rattle.lab_top.proofs.Charts.{shows_none, shows_nothing, shows_whole, shows_cut}
use Rattle.lab_top.proofs.chart.show_chart.Goals as goal

pub returns-in-Err-NoSlot : goal.returns-in-Err-NoSlot
returns-in-Err-NoSlot g c =
    shows_none c.args.asked c.args.text.now c.in-Ok.campaign c.in-Err-NoSlot.field-0
    (chart_lines c.in-Ok.campaign c.args.asked) (g.K.Sink.output c.args.out.now) (g.K.Sink.output c.put_chart.new.out)
    (g.K.Sink.output c.refuse_campaign.new.out) c.refuse_campaign.result c.in-Ok.ensures.value
    c.in-Err-NoSlot.field-0-is c.in-Err-NoSlot.ensures.left c.refuse_campaign.ensures

pub returns-in-Err-Memory : goal.returns-in-Err-Memory
returns-in-Err-Memory g c =
    shows_nothing (chart_view c.args.asked) (viewed (chart_view c.args.asked) c.args.text.now) c.in-Err-Memory.field-0
    (slots_shown c.in-Ok.campaign c.args.asked) (chart_lines c.in-Ok.campaign c.args.asked)
    (g.K.Sink.output c.args.out.now) (g.K.Sink.output c.put_chart.new.out) c.in-Err-Memory.field-0-is
    c.in-Err-Memory.ensures.left

pub returns-in-Ok-put_chart : goal.returns-in-Ok-put_chart
returns-in-Ok-put_chart g c =
    shows_whole c.args.asked c.args.text.now c.in-Ok.campaign (g.K.Sink.output c.args.out.now)
    (g.K.Sink.output c.put_chart.new.out) c.in-Ok.ensures.value c.in-Ok-put_chart.ensures.shown
    c.in-Ok-put_chart.ensures.ok

pub returns-in-Err-Failed : goal.returns-in-Err-Failed
returns-in-Err-Failed g c =
    shows_cut c.args.asked c.args.text.now c.in-Ok.campaign c.in-Err-Failed.field-0 (g.K.Sink.output c.args.out.now)
    (g.K.Sink.output c.put_chart.new.out) c.in-Ok.ensures.value c.in-Err-Failed.field-0-is
    (c.put_chart.ensures.failed (c.in-Err-Failed.is ∙ ap Err c.in-Err-Failed.field-0-is)) c.in-Err-Failed.ensures.left
