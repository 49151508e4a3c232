use Rattle.std.proofs.Common.{List, ℕ, ◌++◌, ap, ◌∙◌}
use Rattle.campaign.specs.CostText.{members_word}
use Rattle.fault_runs.proofs.Listing.{listed-step}
use Rattle.fault_runs.proofs.campaign_text.cost_words.put_memberships.Goals as goal

pub loop-place-preserved : goal.loop-place-preserved
loop-place-preserved c =
    let word : List ℕ → List ℕ = members_word c.args.list.now in
    listed-step word c.args.text.now c.args.sets.now c.loop-place.place c.index-sets-place.result c.loop-place.text
    c.put_comma.new.text c.put_members.new.text c.loop-place-test.true c.loop-place.invariant
    c.in_ok-put_comma.ensures
    (c.in_ok-put_members.ensures
    ∙ ap (λ (m : List ℕ). c.put_comma.new.text ++ word m) c.index-sets-place.is)
