use Rattle.chart_text.proofs.Words.{◌∙◌, ap, length, marked_slots, ten_worst}
use Rattle.chart_text.proofs.TenWorst.{ten-length}
use Rattle.chart_text.specs.Key.{all_counts}
use Rattle.chart_text.proofs.Whole.{chart-whole, wrote-whole, left-whole}
use Rattle.chart_text.proofs.chart.put_chart.Goals as goal

pub put_with_room-requires-clause-counts : goal.put_with_room-requires-clause-counts
put_with_room-requires-clause-counts g c =
    c.survey_of-found.ensures.counts ∙ ap (all_counts c.size_of_campaign-size.result) c.faults.ensures

pub returns-clause-ok : goal.returns-clause-ok
returns-clause-ok g c =
    wrote-whole c.put_with_room.result (g.K.Sink.output c.args.out.now) (g.K.Sink.output c.put_with_room.new.out) _ _
    (chart-whole c.args.campaign.now c.args.asked c.size_of_campaign-size.result (marked_slots c.deref-2.result.now)
    c.size_of_campaign-size.ensures.size (ap marked_slots c.deref-2.ensures.value ∙ c.in-Ok-shown_marks.ensures.marks))
    c.put_with_room.ensures.ok

pub returns-clause-left : goal.returns-clause-left
returns-clause-left g c =
    let shown = ap marked_slots c.deref-2.ensures.value ∙ c.in-Ok-shown_marks.ensures.marks in
    left-whole c.put_with_room.result _ _ (g.K.Sink.output c.args.out.now)
    (g.K.Sink.output c.put_with_room.new.out) _ _ shown
    (chart-whole c.args.campaign.now c.args.asked c.size_of_campaign-size.result (marked_slots c.deref-2.result.now)
    c.size_of_campaign-size.ensures.size shown)
    c.put_with_room.ensures.failed

pub put_with_room-requires-clause-listed : goal.put_with_room-requires-clause-listed
put_with_room-requires-clause-listed g c =
    let size = c.size_of_campaign-size.result in
    c.len-listed.ensures.value
    ∙ ap length (c.survey_of-found.ensures.worst ∙ ap (ten_worst size) c.faults.ensures)
    ∙ ten-length size c.args.campaign.now.faults
