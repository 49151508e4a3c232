use Rattle.pair_runs.proofs.Harms.{cost-ordered}
use Rattle.pair_runs.proofs.tried.try_both.Goals as goal

pub harm_of-requires : goal.harm_of-requires
harm_of-requires c =
    cost-ordered c.args.setting.now.common.list.now c.args.both.now c.in_ok-cost.cost c.requires.may.may.valid
    c.in_ok-cost.ensures.cost
