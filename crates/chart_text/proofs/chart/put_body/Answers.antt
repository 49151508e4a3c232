use Rattle.chart_text.proofs.Words.{◌≡◌, ◌∙◌, ℕ, ap, length, lines_below, marked_slots, puts_both}
use Rattle.whole_campaign.specs.Own.{OwnShown}
use Rattle.chart_text.specs.Chart.{row_names, test_slot, test_flag, of_all_slots_lines}
use Rattle.chart_text.specs.Column.{column_lines}
use Rattle.chart_text.specs.Columns.{chart_bands, place_in}
use Rattle.chart_text.proofs.Written.{along}
use Rattle.chart_text.proofs.chart.put_body.Goals as goal

pub returns-clause-puts : goal.returns-clause-puts
returns-clause-puts g c =
    let size = c.args.extent.size in
    let shown = marked_slots c.args.marks.now in
    let faults = c.args.campaign.now.faults in
    let own : c.own-own.result.test ≡ c.args.campaign.now.own.test = ap (λ (o : OwnShown). o.test) c.own-own.ensures in
    puts_both
    (puts_both
    (puts_both
    (along (λ i. lines_below (row_names size.nodes) (chart_bands size.nodes (c.requires.shown i))) c.put_bands.ensures)
    (along
    (λ i. lines_below (column_lines size shown ((c.new-ahead.ensures ∙ c.faults.ensures) i)) (length shown))
    c.put_columns.ensures.puts))
    (along (ap (λ (n : ℕ). of_all_slots_lines size n faults) c.requires.shown)
    (c.put_beside.ensures faults c.requires.tallies)))
    (along
    (λ i. test_flag size.nodes
    ((c.place_in-column.ensures ∙ ap (place_in shown) (c.test_slot.ensures ∙ ap test_slot own)) i)
    (own i)) c.put_flag.ensures)
