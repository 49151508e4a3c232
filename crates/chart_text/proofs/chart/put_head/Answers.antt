use Rattle.chart_text.proofs.Words.{◌∙◌, ◌&&◌, [], ap, puts_both, puts_first}
use Rattle.chart_text.proofs.Words.{first_told_slot, is_hidden, does_harm, marked_slots}
use Rattle.picture_text.specs.Picture.{class_of, text_line}
use Rattle.std.proofs.Common.{codes}
use Rattle.chart_text.specs.Chart.{chart_front, harm_text, slots_shown_text, own_lines, counted_lines}
use Rattle.chart_text.specs.Columns.{chart_height}
use Rattle.chart_text.proofs.Tallied.{tallied}
use Rattle.chart_text.proofs.Written.{along}
use Rattle.chart_text.proofs.chart.put_head.Goals as goal

pub returns-clause-puts : goal.returns-clause-puts
returns-clause-puts g c =
    let size = c.args.extent.size in
    let shown = marked_slots c.args.marks.now in
    let faults = c.args.campaign.now.faults in
    let t = tallied size c.args.found.now.tallies.all faults c.requires.tallies.whole in
    let hidden = c.first_hidden-hidden.ensures
    ∙ ap (first_told_slot (λ fault. does_harm size fault && is_hidden shown fault)) c.faults.ensures in
    puts_both
    (puts_both
    (along
    (λ i. chart_front size ((c.chart_height.ensures
    ∙ (λ j. chart_height size.nodes (c.requires.shown j) (c.requires.listed j))) i))
    c.put_front.ensures)
    (puts_first
    (c.make_harm.ensures
    ∙ (λ i. text_line (class_of (codes "said")) 12 20
    (harm_text (t.harmful i) (t.many i) (c.requires.most i) size.nodes)))
    c.write.ensures
    (puts_first
    (c.make_shown.ensures ∙ (λ i. text_line [] 12 40 (slots_shown_text size shown (hidden i))))
    c.write-2.ensures (along (ap own_lines c.own.ensures) c.put_own.ensures.puts))))
    (along (λ i. counted_lines (c.requires.kept i) (c.requires.broken i)) c.put_sums.ensures)
