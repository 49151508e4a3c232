use Rattle.chart_text.proofs.Words.{ℕ, ap, arith, puts_both, chart_end, longest_text}
use Rattle.chart_text.proofs.TenWorst.{ten-longest}
use Rattle.chart_text.proofs.Written.{along, chart_ok, chart_failed}
use Rattle.chart_text.proofs.chart.put_with_room.Goals as goal

pub returns-in-Ok-end-clause-ok : goal.returns-in-Ok-end-clause-ok
returns-in-Ok-end-clause-ok g c =
    chart_ok c.end.result _ c.new-sheet.result.failed c.put_end.new.sheet.failed _ _ _ c.in-Ok-end.is c.end.ensures
    c.new-sheet.ensures
    (puts_both (puts_both c.put_head.ensures.puts c.put_body.ensures.puts)
    (along (ap (λ (n : ℕ). chart_end c.args.extent.size n c.args.campaign.now.faults) c.requires.shown)
    (c.put_end.ensures c.args.campaign.now.faults c.requires.listed c.requires.tallies c.requires.counts
    c.requires.worst)))

pub returns-clause-failed : goal.returns-clause-failed
returns-clause-failed g c =
    chart_failed c.end.result _ c.new-sheet.result.failed c.put_end.new.sheet.failed _ _ _ c.in-Err.is c.end.ensures
    c.new-sheet.ensures
    (puts_both (puts_both c.put_head.ensures.puts c.put_body.ensures.puts)
    (along (ap (λ (n : ℕ). chart_end c.args.extent.size n c.args.campaign.now.faults) c.requires.shown)
    (c.put_end.ensures c.args.campaign.now.faults c.requires.listed c.requires.tallies c.requires.counts
    c.requires.worst)))

pub put_end-requires : goal.put_end-requires
put_end-requires g c =
    omega (
      arith,
      ten-longest c.args.extent.size c.args.campaign.now.faults,
      ap longest_text c.requires.worst,
      c.requires.longest,
      c.put_body.ensures.room,
      c.put_head.ensures.room,
      c.in-Some.ensures.longest,
      c.in-Ok.ensures,
    )
