use Rattle.campaign.specs.CostText.{leave_word}
use Rattle.fault_runs.proofs.Listing.{listed-step}
use Rattle.fault_runs.proofs.campaign_text.cost_words.put_leaves.Goals as goal

pub loop-place-preserved : goal.loop-place-preserved
loop-place-preserved c =
    listed-step leave_word c.args.text.now c.args.leaves.now c.loop-place.place _ c.loop-place.text c.put_comma.new.text
    c.put_leave.new.text c.loop-place-test.true c.loop-place.invariant
    c.in_ok-put_comma.ensures c.in_ok-put_leave.ensures
