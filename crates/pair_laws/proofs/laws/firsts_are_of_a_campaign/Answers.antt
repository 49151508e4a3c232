use Rattle.campaign.specs.Tried.{slots_between}
use Rattle.pair_laws.proofs.Firsts.{faults-same}
use Rattle.pair_laws.proofs.laws.firsts_are_of_a_campaign.Goals as goal

pub returns : goal.returns
returns c = λ history first last.
    faults-same c.args.list.now c.args.script.now history (slots_between c.args.script.now first last)
