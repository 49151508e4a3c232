use Rattle.ttp_world.specs.World.{world}
use Rattle.campaign.specs.Cost.{says_yes}
use Rattle.campaign.specs.CostText.{test_words}
use Rattle.ttp_world.specs.ZerosWorld.{zeros_world}
use Rattle.campaign_laws.proofs.FromBelow.{zeros-legal}
use Rattle.campaign_laws.proofs.Alike.{cost-alike}
use Rattle.campaign_laws.proofs.laws.same_cost.Goals as goal

pub returns : goal.returns
returns c = λ numbers legal.
    let list = c.args.list.now in
    let script = c.args.script.now in
    let same =
    cost-alike list script (world list script numbers) (zeros_world list script script.slots)
    (zeros-legal list script numbers script.slots c.requires.script legal.legal legal.count) in
    λ i. record { yes = says_yes list script; test = test_words list script; cost = same i }
